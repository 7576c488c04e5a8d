-- Filters, sums and what holds of each, over lists put together.
use Rattle.keyed.proofs.Words.{None, Option, Some, sym, Bool, true, false, cond, List, [], ◌∷◌, ◌++◌, inl, inr, ◌≡◌, refl, ap, ℕ, arith, false≢true}
use Rattle.std.proofs.lemmas.Bool.Decides.{nat_tests}
use Rattle.keyed.specs.Lists.{those, sum, is_some, or_else, all}
use Rattle.keyed.specs.Members.{Each, In}

-- ── Each ──

pub each_map : {X : Type 0} (P Q : X → Type 0) → ((x : X) → P x → Q x) → (xs : List X) → Each P xs → Each Q xs
each_map P Q f [] h = tt
each_map P Q f (x ∷ xs) h = (f x h.0, each_map P Q f xs h.1)

pub each_append : {X : Type 0} (P : X → Type 0) (xs ys : List X) → Each P xs → Each P ys → Each P (xs ++ ys)
each_append P [] ys h k = k
each_append P (x ∷ xs) ys h k = (h.0, each_append P xs ys h.1 k)

pub each_in : {X : Type 0} (P : X → Type 0) (x : X) (xs : List X) → Each P xs → In x xs → P x
each_in P x [] h i = absurd i
each_in P x (y ∷ ys) h i = let ih = each_in P x ys h.1 in grind (arith, nat_tests)

pub from_in : {X : Type 0} (P : X → Type 0) (xs : List X) → ((x : X) → In x xs → P x) → Each P xs
from_in P [] f = tt
from_in P (x ∷ xs) f = (f x (inl refl), from_in P xs (λ y i. f y (inr i)))

pub all_in : {X : Type 0} (p : X → Bool) (xs : List X) (x : X) → all p xs ≡ true → In x xs → p x ≡ true
all_in p [] x h i = absurd i
all_in p (y ∷ xs) x h i = let ih = all_in p xs x in grind (arith, nat_tests)

-- ── those ──

pub those_append : {X : Type 0} (p : X → Bool) (xs ys : List X) → those p (xs ++ ys) ≡ those p xs ++ those p ys
those_append p [] ys = refl
those_append p (x ∷ xs) ys = let ih = those_append p xs ys in grind (arith, nat_tests)

pub those_all : {X : Type 0} (p : X → Bool) (xs : List X) → Each (λ x. p x ≡ true) xs → those p xs ≡ xs
those_all p [] h = refl
those_all p (x ∷ xs) h = let ih = those_all p xs h.1 in grind (arith, nat_tests)

pub those_none : {X : Type 0} (p : X → Bool) (xs : List X) → Each (λ x. p x ≡ false) xs → those p xs ≡ []
those_none p [] h = refl
those_none p (x ∷ xs) h = let ih = those_none p xs h.1 in grind (arith, nat_tests)

-- and back
pub none_those : {X : Type 0} (p : X → Bool) (xs : List X) → those p xs ≡ [] → Each (λ x. p x ≡ false) xs
none_those p [] h = tt
none_those p (x ∷ xs) h = let ih = none_those p xs in grind (arith, nat_tests)

pub those_same : {X : Type 0} (p q : X → Bool) (xs : List X) → Each (λ x. p x ≡ q x) xs → those p xs ≡ those q xs
those_same p q [] h = refl
those_same p q (x ∷ xs) h = let ih = those_same p q xs h.1 in grind (arith, nat_tests)

-- ── sum ──

pub sum_those : {X : Type 0} (f : X → ℕ) (p : X → Bool) (xs : List X) → sum f (those p xs) ≡ sum (λ x. cond (p x) (f x) 0) xs
sum_those f p [] = refl
sum_those f p (x ∷ xs) = let ih = sum_those f p xs in grind (arith, nat_tests)

-- ── Options ──

abbrev pub mapped : {X Y : Type 0} → (X → Y) → Option X → Option Y
mapped f None = None
mapped f (Some x) = Some (f x)

pub some_same : {X : Type 0} (x y : X) → Some x ≡ Some y → x ≡ y
some_same x y e = ap (or_else x) e

pub none_some : {X : Type 0} (x : X) → None ≡ Some x → ⊥
none_some x e = false≢true (ap is_some e)

pub some_of : {X : Type 0} (d : X) (o : Option X) → is_some o ≡ true → o ≡ Some (or_else d o)
some_of d None e = absurd (false≢true e)
some_of d (Some x) e = refl

pub none_by : {X : Type 0} (o : Option X) → is_some o ≡ false → o ≡ None
none_by None h = refl
none_by (Some x) h = absurd (false≢true (sym h))

pub is_some_mapped : {X Y : Type 0} (f : X → Y) (o : Option X) → is_some (mapped f o) ≡ is_some o
is_some_mapped f None = refl
is_some_mapped f (Some x) = refl
