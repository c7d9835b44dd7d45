-- Items that are added to others, as tokens and bytes are.
use Rattle.std.proofs.Common.{◌≡◌, ◌∙◌, List, ◌++◌, append_assoc, ap}

-- two in a row
two_added : {X : Type 0} (old one new a b : List X) → one ≡ old ++ a → new ≡ one ++ b → new ≡ old ++ (a ++ b)
two_added old one new a b first second = second ∙ ap (λ ts. ts ++ b) first ∙ append_assoc old a b

-- five in a row
pub five_added : {X : Type 0} (old one two three four new a b c d e : List X) → one ≡ old ++ a → two ≡ one ++ b → three ≡ two ++ c → four ≡ three ++ d → new ≡ four ++ e → new ≡ old ++ (a ++ (b ++ (c ++ (d ++ e))))
five_added old one two three four new a b c d e first second third fourth fifth =
    two_added old one new a (b ++ (c ++ (d ++ e))) first (two_added one two new b (c ++ (d ++ e)) second (two_added two three new c (d ++ e) third (two_added three four new d e fourth fifth)))

-- six in a row
pub six_added : {X : Type 0} (old one two three four five new a b c d e f : List X) → one ≡ old ++ a → two ≡ one ++ b → three ≡ two ++ c → four ≡ three ++ d → five ≡ four ++ e → new ≡ five ++ f → new ≡ old ++ (a ++ (b ++ (c ++ (d ++ (e ++ f)))))
six_added old one two three four five new a b c d e f first second third fourth fifth sixth =
    two_added old one new a (b ++ (c ++ (d ++ (e ++ f)))) first (two_added one two new b (c ++ (d ++ (e ++ f))) second (two_added two three new c (d ++ (e ++ f)) third (two_added three four new d (e ++ f) fourth (two_added four five new e f fifth sixth))))
