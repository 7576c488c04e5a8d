-- What a changed row does to what is seen of the rows by number, where 0 stands for none.
use Rattle.std.proofs.lemmas.Grind.{common_steps}
use Rattle.std.proofs.Common.{arith}
use Rattle.keyed.proofs.Words.{List, ap, false, refl, sym, true, ℕ, ◌∙◌, ◌≡◌}
use Rattle.keyed.proofs.Keys.{row_changed}
use Rattle.keyed.specs.Lists.{is_some, or_else}
use Rattle.keyed.specs.Rows.{find, changed}
use Rattle.chains.proofs.Ties.{put_on}
use Rattle.chains.proofs.Walk.{Not0, put}
use Rattle.chains.proofs.Walks.{put_cases, put_off}

pub put_map : {X Y : Type 0} (g : X → Y) (a : ℕ) (x : X) (f : ℕ → X) (n : ℕ) → g (put a x f n) ≡ put a (g x) (λ k. g (f k)) n
put_map g a x f n = put_cases (λ y. g y ≡ put a (g x) (λ k. g (f k)) n) a x f n
    (λ e z. sym (put_on a (g x) (λ k. g (f k)) n e z)) (λ q. sym (put_off a (g x) (λ k. g (f k)) n q))

pub put_same : {X : Type 0} (a : ℕ) (x : X) (f : ℕ → X) (n : ℕ) → (Not0 a → x ≡ f a) → put a x f n ≡ f n
put_same a x f n h = put_cases (λ y. y ≡ f n) a x f n (λ e z. h (λ d. z (e ∙ d)) ∙ ap f (sym e)) (λ _. refl)

module _ {R : Type 0} (key : R → ℕ) where
  pub look_put : (d : R) (f : R → R) → ((x : R) → key (f x) ≡ key x) → (n : ℕ) (xs : List R)
      → (Not0 n → is_some (find key n xs) ≡ true) → is_some (find key 0 xs) ≡ false
      → (m : ℕ) → or_else d (find key m (changed key n f xs)) ≡ put n (f (or_else d (find key n xs))) (λ k. or_else d (find key k xs)) m
  look_put d f keeps n xs here none m = grind (arith, common_steps, row_changed, put_off, put_on)
