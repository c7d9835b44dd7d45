mod OnceAmong
