-- Four puts one after the other: what a sink has taken after them, also where one of them fails.
use Rattle.std.proofs.Common.{◌≡◌, ◌∙◌, ℕ, Option, List, ◌++◌, Result, IsErr, ap}
use Rattle.pio_edge.specs.Edge.{with_bytes, TakesPrefix, Takes}
use Rattle.pio_edge.proofs.PutLaws.{with_bytes-append, takes_prefix-append_l, takes_prefix-append_r, takes_on, takes_off}

joined : (o m n : Option (List ℕ)) (a b : List ℕ) → m ≡ with_bytes o a → n ≡ with_bytes m b → n ≡ with_bytes o (a ++ b)
joined o m n a b e h = h ∙ ap (λ w. with_bytes w b) e ∙ with_bytes-append o a b

-- the first of four fails
pub first_fails : {T E : Type 0} (o m : Option (List ℕ)) (a b c d : List ℕ) (r : Result T E) → IsErr r → TakesPrefix o a m → Takes o (a ++ b ++ c ++ d) m r
first_fails o m a b c d r f h = takes_off o m (a ++ b ++ c) d r f (takes_prefix-append_l o m (a ++ b) c (takes_prefix-append_l o m a b h))

pub second_fails : {T E : Type 0} (o m n : Option (List ℕ)) (a b c d : List ℕ) (r : Result T E) → m ≡ with_bytes o a → IsErr r → TakesPrefix m b n → Takes o (a ++ b ++ c ++ d) n r
second_fails o m n a b c d r e f h = takes_off o n (a ++ b ++ c) d r f (takes_prefix-append_l o n (a ++ b) c (takes_prefix-append_r o m n a b e h))

pub third_fails : {T E : Type 0} (o m n p : Option (List ℕ)) (a b c d : List ℕ) (r : Result T E) → m ≡ with_bytes o a → n ≡ with_bytes m b → IsErr r → TakesPrefix n c p → Takes o (a ++ b ++ c ++ d) p r
third_fails o m n p a b c d r e k f h = takes_off o p (a ++ b ++ c) d r f (takes_prefix-append_r o n p (a ++ b) c (joined o m n a b e k) h)

pub fourth_ends : {T E : Type 0} (o m n p q : Option (List ℕ)) (a b c d : List ℕ) (r : Result T E) → m ≡ with_bytes o a → n ≡ with_bytes m b → p ≡ with_bytes n c → Takes p d q r → Takes o (a ++ b ++ c ++ d) q r
fourth_ends o m n p q a b c d r e k l h = takes_on o p q (a ++ b ++ c) d r (joined o n p (a ++ b) c (joined o m n a b e k) l) h
