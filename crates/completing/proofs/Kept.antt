-- Changes that keep the numbers keep the places.
use Rattle.keyed.proofs.Words.{arith, List, Some, [], ◌∷◌, ◌≡◌, ap, cond, eqb, map, refl, sym, zero, suc, ℕ, ◌+◌, ◌∙◌}
use Rattle.std.proofs.Common.{get_or, set}
use Rattle.std.proofs.lemmas.Grind.{common_steps}
use Rattle.keyed.proofs.Steps.{found_at}
use Rattle.keyed.specs.Lists.{or_else}
use Rattle.keyed.specs.Places.{At, altered, place_from}
use Rattle.keyed.specs.Rows.{changed}
use Rattle.rows.specs.Trades.{no_trade, number, trade_in}
use Rattle.rows.specs.declared.row.Trade.{Trade}
use Rattle.chains.specs.Places.{Chain, Findable, Shaped, number_at, numbers_at, places_of, row_at, rows_at}

-- a row put in its place is the row changed
pub set_altered : {R : Type 0} (i : ℕ) (f : R → R) (d : R) (xs : List R) → set xs i (f (get_or xs i d)) ≡ altered i f xs
set_altered i f d [] = refl
set_altered zero f d (x ∷ xs) = refl
set_altered (suc i) f d (x ∷ xs) = ap (λ ys. x ∷ ys) (set_altered i f d xs)

pub set_changed : {R : Type 0} (key : R → ℕ) (k i : ℕ) (f : R → R) (d row : R) (xs : List R) → At key k xs i → row ≡ f (get_or xs i d) → set xs i row ≡ changed key k f xs
set_changed key k i f d row xs a e = ap (λ r. set xs i r) e ∙ set_altered i f d xs ∙ sym (a.changes f)

places_by : (n j : ℕ) (ts : List Trade) → place_from number n j ts ≡ place_from (λ m. m) n j (map number ts)
places_by n j [] = refl
places_by n j (t ∷ ts) = ap (λ o. cond (eqb (number t) n) (Some j) o) (places_by n (j + 1) ts)

module _ (ts us : List Trade) (same : map number us ≡ map number ts) where
  -- the trade with this number stands where it stood
  pub at_kept : (n i : ℕ) → At number n ts i → At number n us i
  at_kept n i a = found_at number n us (Some i) (sym (places_by n 0 us ∙ ap (place_from (λ m. m) n 0) same ∙ sym (places_by n 0 ts) ∙ a.first))

  pub read_kept : (n i : ℕ) → At number n ts i → trade_in us n ≡ row_at us i
  read_kept n i a = ap (or_else no_trade) ((at_kept n i a).reads no_trade)

  -- the trades of a chain are read at their places
  pub rows_kept : (c : Chain) → Shaped c → Findable ts c.0 → Findable ts c.1 → Findable ts c.2
      → map (trade_in us) (numbers_at ts (places_of c)) ≡ rows_at us (places_of c)
  rows_kept c s a b e =
      let first = read_kept (number_at ts c.0) c.0 a in
      let middle = read_kept (number_at ts c.1) c.1 b in
      let last = read_kept (number_at ts c.2) c.2 e in
      grind (arith, common_steps)
