-- What a sound book is, and what is known of one.
use Rattle.keyed.proofs.Words.{Bool, true, false, not, ◌||◌, cond, List, [], ◌∷◌, ⊎_elim, ◌≡◌, refl, sym, ap, ◌∙◌, ℕ, ◌≤◌, ◌<◌, arith, eqb, length, cases_eq, eqb-false, and_parts, or_cases, not-true, Some, None}
use Rattle.law.proofs.Subject.{Intermediation, Side, Buyer, Seller, or_else, is_some, In, Table, find, changed, rises_above, Listed, Request, entries_held, good_intermediation, has_leg, id, no_intermediation, any_leg, number, at_side, numbered, both_confirmed, Allocation, Trade, placed, numbers_in, confirms_in, chain_confirmed, chain_matches, issuer, all_numbered, numbering, with_numbers, State, trade, intermediation}
use Rattle.keyed.proofs.Keys.{rises_changed, row_found}
use Rattle.keyed.proofs.Lists.{some_of, all_in}
use Rattle.chains.proofs.Walk.{Not0, Walk, Half}
use Rattle.law.proofs.Bridge.{as_bought, as_sold}
use Rattle.law.proofs.Chained.{tie_at, leg_at, chain_is, numbers_from}
use Rattle.law.proofs.Completes.{Confirming, completed_sound}
use Rattle.law.proofs.Confirms.{leg_left, leg_right}
use Rattle.law.proofs.Kept.{walk, bought_live, sold_live}
use Rattle.law.proofs.Passed.{Tables}
use Rattle.law.proofs.Shown.{view, None0}
use Rattle.law.proofs.Views.{next, prev, first, leg, Sound as Seen}

-- what every request keeps: what the rows show is sound, and the keys rise
pub record Sound (s : State) : Type 0 where
  pub seen : Seen (view s)
  pub trade_keys : rises_above number 0 s.trades.rows ≡ true
  pub intermediation_keys : rises_above id 0 s.intermediations.rows ≡ true

-- the sides of a confirmed trade hold something
abbrev pub EndsHold : State → Type 0
EndsHold p = (m : ℕ) → Not0 m → both_confirmed (trade p m) ≡ true → (0 < length (entries_held (trade p m).seller)) × (0 < length (entries_held (trade p m).buyer))

-- those of a request that confirms
abbrev pub ConfirmedHold : List Listed → State → Request → Type 0
ConfirmedHold r s q = (m : ℕ) → confirms_in s q ≡ Some m → EndsHold (placed r s q)

pub not0_pos : (n : ℕ) → Not0 n → 0 < n
not0_pos n z = ⊎_elim (λ (e : n ≡ 0). absurd (z e)) (λ (e : n ≡ 0 → ⊥). omega arith) (cases_eq n 0)

pub keys_numbered : (c : List Trade) (t : Table Trade) → rises_above number 0 t.rows ≡ true → rises_above number 0 (all_numbered c t).rows ≡ true
keys_numbered [] t h = h
keys_numbered (u ∷ c) t h = keys_numbered c _ (rises_changed number numbered (λ _. refl) (number u) t.rows 0 h)

-- numbering leaves the keys
pub with_keys : (c : List Trade) (p : State) → Seen (view (with_numbers c p)) → rises_above number 0 p.trades.rows ≡ true → rises_above id 0 p.intermediations.rows ≡ true
    → Sound (with_numbers c p)
unfolding numbering
with_keys [] p v t j = record { seen = v; trade_keys = t; intermediation_keys = j }
with_keys (u ∷ c) p v t j = record { seen = v; trade_keys = keys_numbered (u ∷ c) p.trades t; intermediation_keys = j }

-- a call that confirms or does not
pub finish : (p : State) (n : ℕ) (b : Bool) → (b ≡ true → Confirming p n) → (b ≡ false → Seen (view p)) → (b ≡ true → EndsHold p)
    → length (chain_matches (chain_confirmed p (cond b (Some n) None))) ≤ length (issuer (chain_confirmed p (cond b (Some n) None)) p)
    → Seen (view (with_numbers (chain_confirmed p (cond b (Some n) None)) p))
finish p n true c k held enough = completed_sound p n (c refl) (held refl) enough
finish p n false c k held enough = k refl

-- one side of a trade, as two legs
pub leg_case : (P : ℕ → Type 0) (n : ℕ) (w : Side) → P n → Not0 (as_bought n w) → P (as_bought n w)
leg_case P n Buyer h z = h
leg_case P n Seller h z = absurd (z refl)

pub sold_case : (P : ℕ → Type 0) (n : ℕ) (w : Side) → P n → Not0 (as_sold n w) → P (as_sold n w)
sold_case P n Buyer h z = absurd (z refl)
sold_case P n Seller h z = h

pub side_leg_is : (n : ℕ) (w : Side) → Not0 n → leg (as_bought n w) (as_sold n w) ≡ n
side_leg_is n Buyer z = leg_left n 0 z
side_leg_is n Seller z = refl

pub any_leg_is : (x : Intermediation) → leg x.bought x.sold ≡ any_leg x
any_leg_is x = go (eqb x.bought 0)
  where
    go : (b : Bool) → cond b x.sold x.bought ≡ cond (not b) x.bought x.sold
    go true = refl
    go false = refl

pub some_leg : (x : Intermediation) → (has_leg Buyer x || has_leg Seller x) ≡ true → Not0 (any_leg x)
some_leg x h =
    ⊎_elim (λ (e : x.bought ≡ 0). ⊎_elim (λ (b : has_leg Buyer x ≡ true). absurd (eqb-false _ _ (not-true _ b) e))
    (λ (b : has_leg Seller x ≡ true). λ y. eqb-false _ _ (not-true _ b) (sym (leg_right x.bought x.sold e) ∙ any_leg_is x ∙ y))
    (or_cases (has_leg Buyer x) (has_leg Seller x) h))
    (λ (e : Not0 x.bought). λ y. e (sym (leg_left x.bought x.sold e) ∙ any_leg_is x ∙ y))
    (cases_eq x.bought 0)

module _ (s : State) (g : Sound s) where
  pub none0 : None0 s.trades.rows
  none0 = g.seen.none

  pub halves_of : (w : Side) → Half (tie_at s.trades.rows w) (leg_at s.intermediations.rows w)
  halves_of Buyer = g.seen.buying
  halves_of Seller = g.seen.selling

  pub there_of : (w : Side) (i : ℕ) → Not0 (leg_at s.intermediations.rows w i) → is_some (find number (leg_at s.intermediations.rows w i) s.trades.rows) ≡ true
  there_of Buyer i z = (and_parts _ _ (bought_live (view s) g.seen i z)).0
  there_of Seller i z = (and_parts _ _ (sold_live (view s) g.seen i z)).0

  pub walk_in : Walk (next (view s)) (prev (view s))
  walk_in = walk (view s) g.seen

  abbrev pub numbers_at : ℕ → List ℕ
  numbers_at n = numbers_from s.trades.rows s.intermediations.rows halves_of there_of (first (view s) n)

  pub numbers_are : (n : ℕ) → is_some (find number n s.trades.rows) ≡ true → Not0 n → numbers_in s.trades.rows s.intermediations.rows n ≡ numbers_at n
  numbers_are n h z = ap (or_else []) (chain_is s.trades.rows s.intermediations.rows halves_of there_of walk_in n h z)

  pub side_keys : (w : Side) (n : ℕ) (d : Allocation → Allocation) → rises_above number 0 (changed number n (at_side w d) s.trades.rows) ≡ true
  side_keys Buyer n d = rises_changed number (at_side Buyer d) (λ _. refl) n s.trades.rows 0 g.trade_keys
  side_keys Seller n d = rises_changed number (at_side Seller d) (λ _. refl) n s.trades.rows 0 g.trade_keys

  -- a row of the intermediations that is there has a leg
  pub legged : (i : ℕ) → Tables s → is_some (find id i s.intermediations.rows) ≡ true → Not0 (any_leg (intermediation s i))
  legged i t h =
      let x = intermediation s i in
      let found : In x s.intermediations.rows = (row_found id i s.intermediations.rows x (some_of no_intermediation (find id i s.intermediations.rows) h)).0 in
      let good : good_intermediation x ≡ true = all_in good_intermediation s.intermediations.rows x t.intermediations found in
      some_leg x (and_parts _ _ good).1
