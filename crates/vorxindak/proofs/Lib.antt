mod Told
