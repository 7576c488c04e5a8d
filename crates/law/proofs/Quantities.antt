-- The entries that a confirming request leaves are positive.
use Rattle.keyed.proofs.Words.{Bool, true, false, cond, ◌&&◌, ◌||◌, List, [], ◌∷◌, map, inl, inr, ◌≡◌, refl, sym, ap, subst, ◌∙◌, ℕ, ◌<◌, arith, take, and_parts, or_cases, Some}
use Rattle.law.proofs.Subject.{is_in_range, numbers_or_none, numbers, quantities, Side, Buyer, Seller, or_else, all, Each, changed, Listed, Request, held, is_empty, confirmed, entries_held, good_trade, leg, number, allocation, at_side, no_trade, Allocation, KeptEntry, Trade, placed, whole_entry, kept_entry, entries_of, confirms_in, State, intermediation}
use Rattle.fields.specs.Ranges.{entry_counts}
use Rattle.keyed.proofs.Keys.{row_found, each_changed}
use Rattle.rows.proofs.Sides.{held_confirmed, held_filled}
use Rattle.rows.specs.Allocations.{confirmed_if, filled}
use Rattle.rows.specs.InUse.{good_entry, good_allocation, good_terms}
use Rattle.chains.proofs.Matches.{Positive}
use Rattle.book.specs.Effects.{filled_leg}
use Rattle.law.proofs.ChainRows.{part_changed}
use Rattle.law.proofs.Confirmers.{Confirmer, confirmer, including, intermediating, one_side, two_sides}
use Rattle.law.proofs.Fair.{entries_kept}
use Rattle.law.proofs.Passed.{Passed, Tables, at_least, leg_is_there}

-- ── A trade with positive entries ──

pub record SoundTrade (t : Trade) : Type 0 where
  pub numbered : 0 < number t
  pub quantity : 0 < t.terms.quantity
  pub buyer : Positive (entries_held t.buyer)
  pub seller : Positive (entries_held t.seller)

good_positive : (es : List KeptEntry) → all (λ e. good_entry e.entry) es ≡ true → Positive (map (λ e. e.entry) es)
good_positive [] h = tt
good_positive (e ∷ es) h =
    let both = and_parts (good_entry e.entry) (all (λ x. good_entry x.entry) es) h in (
      at_least quantities e.entry.quantity (and_parts _ _ (and_parts _ _ both.0).0).1,
      good_positive es both.1,
    )

held_empty : (d : Allocation) → is_empty d.state ≡ true → held d ≡ []
held_empty d h = ap (λ z. cond z [] (take d.count d.entries)) h

side_positive : (d : Allocation) → good_allocation d ≡ true → Positive (entries_held d)
side_positive d h =
    elim (or_cases (is_empty d.state) (is_in_range entry_counts d.count && all (λ e. good_entry e.entry) (held d)) (and_parts (is_in_range numbers_or_none d.tie) (is_empty d.state || (is_in_range entry_counts d.count && all (λ e. good_entry e.entry) (held d))) h).1) [
      | inl empty ↦ subst (λ es. Positive (map (λ e. e.entry) es)) (sym (held_empty d empty)) tt
      | inr good ↦ good_positive (held d) (and_parts (is_in_range entry_counts d.count) (all (λ e. good_entry e.entry) (held d)) good).1
    ]

pub good_sound : (t : Trade) → good_trade t ≡ true → SoundTrade t
good_sound t h =
    let two = and_parts (good_terms t.terms && good_allocation t.buyer) (good_allocation t.seller) h in
    let one = and_parts (good_terms t.terms) (good_allocation t.buyer) two.0 in
    let f = (and_parts _ _ (and_parts _ _ one.0).0).0 in
    let d = (and_parts _ _ (and_parts _ _ f).0).0 in
    let c = and_parts _ _ (and_parts _ _ d).0 in
    record {
      numbered = at_least numbers (number t) (and_parts _ _ c.0).0;
      quantity = at_least quantities t.terms.quantity c.1;
      buyer = side_positive t.buyer one.1;
      seller = side_positive t.seller two.1;
    }

all_each : (ts : List Trade) → all good_trade ts ≡ true → Each SoundTrade ts
all_each [] h = tt
all_each (t ∷ ts) h = let both = and_parts (good_trade t) (all good_trade ts) h in (good_sound t both.0, all_each ts both.1)

pub whole_sound : (s : State) → Tables s → Each SoundTrade s.trades.rows
whole_sound s t = all_each s.trades.rows t.trades

-- ── One row changed ──

-- a side changed that stays positive
pub sound_side : (w : Side) (f : Allocation → Allocation) (t : Trade) → (Positive (entries_held (allocation w t)) → Positive (entries_held (f (allocation w t)))) → SoundTrade t → SoundTrade (at_side w f t)
sound_side Buyer f t k h = record { numbered = h.numbered; quantity = h.quantity; buyer = k h.buyer; seller = h.seller }
sound_side Seller f t k h = record { numbered = h.numbered; quantity = h.quantity; buyer = h.buyer; seller = k h.seller }

pub filled_positive : (z : Bool) (es : List KeptEntry) (tie : ℕ) (d : Allocation) → Positive (map (λ e. e.entry) es) → Positive (entries_held (confirmed_if z (filled es tie d)))
filled_positive z es tie d h = subst (λ l. Positive (map (λ e. e.entry) l)) (sym (held_filled z es tie d)) h

pub confirmed_positive : (d : Allocation) → is_empty d.state ≡ false → Positive (entries_held d) → Positive (entries_held (confirmed d))
confirmed_positive d e h = subst (λ l. Positive (map (λ x. x.entry) l)) (sym (held_confirmed d e)) h

-- ── The requests that confirm ──

by_confirmer : (r : List Listed) (s : State) (q : Request) (m : ℕ) → Passed r s q → Confirmer s q m → Each SoundTrade (placed r s q).trades.rows
unfolding placed
by_confirmer r s _ _ e (including q now) =
    let es : List KeptEntry = map (kept_entry r) (entries_of q) in
    let f : Allocation → Allocation = λ d. confirmed_if q.now (filled es 0 d) in
    each_changed number SoundTrade (at_side q.side f) q.trade s.trades.rows
    (λ t _ h. sound_side q.side f t (λ _. filled_positive q.now es 0 (allocation q.side t) (subst Positive (sym (entries_kept r (entries_of q))) e.own.positive)) h)
    (whole_sound s e.tables)
by_confirmer r s _ _ e (one_side q) =
    each_changed number SoundTrade (at_side q.side confirmed) q.trade s.trades.rows
    (λ t found h. sound_side q.side confirmed t
    (confirmed_positive (allocation q.side t) (subst (λ u. is_empty (allocation q.side u).state ≡ false) (ap (or_else no_trade) found) e.own.holds)) h)
    (whole_sound s e.tables)
by_confirmer r s _ _ e (intermediating q now) =
    joined Seller (filled_leg r q.intermediation q.now Buyer s).trades.rows (joined Buyer s.trades.rows (whole_sound s e.tables))
  where
    joined : (w : Side) (ts : List Trade) → Each SoundTrade ts
        → Each SoundTrade (changed number (leg w q.intermediation) (λ t. at_side w (λ d. confirmed_if q.now (filled (kept_entry r (whole_entry q.intermediation.account t) ∷ []) q.intermediation.id d)) t) ts)
    joined w ts h =
        each_changed number SoundTrade (λ t. at_side w (λ d. confirmed_if q.now (filled (kept_entry r (whole_entry q.intermediation.account t) ∷ []) q.intermediation.id d)) t) (leg w q.intermediation) ts
        (λ t _ k. sound_side w (λ d. confirmed_if q.now (filled (kept_entry r (whole_entry q.intermediation.account t) ∷ []) q.intermediation.id d)) t
        (λ _. filled_positive q.now (kept_entry r (whole_entry q.intermediation.account t) ∷ []) q.intermediation.id (allocation w t) (k.quantity, tt)) k) h
by_confirmer r s _ _ e (two_sides q) =
    each_changed number SoundTrade (at_side Seller confirmed) (intermediation s q.id).sold once
    (λ t found h.
    let key : number t ≡ (intermediation s q.id).sold = (row_found number (intermediation s q.id).sold once t found).1 in
    let full = e.own.holds Seller (leg_is_there Seller (intermediation s q.id) (λ z. absurd (omega (arith, h.numbered, key, z)))) in
    let same = part_changed (λ u. is_empty u.seller.state) (at_side Buyer confirmed) (λ u. refl) (λ u. refl) (intermediation s q.id).bought (intermediation s q.id).sold s.trades.rows in
    sound_side Seller confirmed t (confirmed_positive t.seller (sym (ap (λ o. is_empty (or_else no_trade o).seller.state) found) ∙ same ∙ full)) h)
    (each_changed number SoundTrade (at_side Buyer confirmed) (intermediation s q.id).bought s.trades.rows
    (λ t found h.
    let key : number t ≡ (intermediation s q.id).bought = (row_found number (intermediation s q.id).bought s.trades.rows t found).1 in
    let full = e.own.holds Buyer (leg_is_there Buyer (intermediation s q.id) (λ z. absurd (omega (arith, h.numbered, key, z)))) in
    sound_side Buyer confirmed t (confirmed_positive t.buyer (sym (ap (λ o. is_empty (or_else no_trade o).buyer.state) found) ∙ full)) h)
    (whole_sound s e.tables))
  where
    once : List Trade
    once = changed number (intermediation s q.id).bought (at_side Buyer confirmed) s.trades.rows

-- what a request that may complete a chain places is sound
pub placed_sound : (r : List Listed) (s : State) (q : Request) (m : ℕ) → Passed r s q → confirms_in s q ≡ Some m → Each SoundTrade (placed r s q).trades.rows
placed_sound r s q m e c = by_confirmer r s q m e (confirmer s q m c)
