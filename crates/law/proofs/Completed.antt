-- The pairs of a completed chain are as the law asks.
use Rattle.keyed.proofs.Words.{true, false, cond, List, [], ◌∷◌, ◌++◌, map, ◌≡◌, refl, sym, ap, subst, ◌∙◌, ℕ, ◌<◌, ◌≤◌, arith, length, and_parts, Option, Some, None}
use Rattle.law.proofs.Subject.{Side, Buyer, Seller, or_else, Each, Table, find, changed_in, is_empty, is_confirmed, total, entries_held, number, allocation, both_confirmed, alike, numbered, no_trade, Trade, all, trade_in, last_of, Paired, all_numbered, numbering, chain_matches, by_selic, issuer, new_pairs, History, Beginning, State, trade, Sides, Linked, Chains, final, begun_for, given}
use mathlib.Core.Bool.{false≢true}
use Rattle.keyed.proofs.Keys.{each_row, each_changed}
use Rattle.keyed.proofs.Lists.{each_map}
use Rattle.rows.proofs.Sides.{alike_parts, confirmed_filled, some_entries}
use Rattle.chains.proofs.Matches.{Level, pairs_paired}
use Rattle.law.proofs.ChainRows.{Found, part_changed}
use Rattle.law.proofs.Events.{Unnumbered}
use Rattle.law.proofs.Histories.{Issued, begun_before}
use Rattle.law.proofs.PairLaw.{Full}
use Rattle.law.proofs.Quantities.{SoundTrade}

-- ── Numbering changes states alone ──

pub numbered_part : {Y : Type 0} (g : Trade → Y) → ((t : Trade) → g (numbered t) ≡ g t) → (c : List Trade) (t : Table Trade) (n : ℕ)
    → g (trade_in (all_numbered c t).rows n) ≡ g (trade_in t.rows n)
numbered_part g same [] t n = refl
numbered_part g same (u ∷ c) t n =
    numbered_part g same c (changed_in number (number u) numbered t) n ∙ part_changed g numbered (λ _. refl) same (number u) n t.rows

pub numbered_sound : (c : List Trade) (t : Table Trade) → Each SoundTrade t.rows → Each SoundTrade (all_numbered c t).rows
numbered_sound [] t h = h
numbered_sound (u ∷ c) t h =
    numbered_sound c (changed_in number (number u) numbered t)
    (each_changed number SoundTrade numbered (number u) t.rows (λ v _ k. record { numbered = k.numbered; quantity = k.quantity; buyer = k.buyer; seller = k.seller }) h)

-- ── What is said of a trade both of whose sides are confirmed ──

pub at_confirmed : (P : Trade → Type 0) (s : State) (n : ℕ) → Each P s.trades.rows → both_confirmed (trade s n) ≡ true → P (trade s n)
at_confirmed P s n all h = go (find number n s.trades.rows) refl h
  where
    go : (o : Option Trade) → find number n s.trades.rows ≡ o → both_confirmed (or_else no_trade o) ≡ true → P (or_else no_trade o)
    go None e h = absurd (false≢true h)
    go (Some u) e h = each_row number P n s.trades.rows u all e

either_side : (t : Trade) → both_confirmed t ≡ true → (w : Side) → is_empty (allocation w t).state ≡ false
either_side t h Buyer = confirmed_filled t.buyer.state (and_parts (is_confirmed t.buyer.state) (is_confirmed t.seller.state) h).0
either_side t h Seller = confirmed_filled t.seller.state (and_parts (is_confirmed t.buyer.state) (is_confirmed t.seller.state) h).1

pub confirmed_total : (day : ℕ) (h : History) (s : State) → Sides day h s → (w : Side) (n : ℕ) → both_confirmed (trade s n) ≡ true
    → total (entries_held (allocation w (trade s n))) ≡ (trade s n).terms.quantity
confirmed_total day h s sides w n c =
    at_confirmed (λ t. is_empty (allocation w t).state ≡ false → total (entries_held (allocation w t)) ≡ t.terms.quantity) s n (sides.adds_up w) c (either_side (trade s n) c w)

-- ── Both ends of a chain are level ──

pub final_each : (P : ℕ → Type 0) (n : ℕ) (os : List ℕ) → P n → Each P os → P (final n os)
final_each P n [] x h = x
final_each P n (m ∷ os) x h = final_each P m os h.0 h.1

pub quantity_same : (s : State) → Chains s → (n : ℕ) (os : List ℕ) → Linked s.intermediations.rows (n ∷ os) → (trade s (final n os)).terms.quantity ≡ (trade s n).terms.quantity
quantity_same s c n os l =
    final_each (λ m. (trade s m).terms.quantity ≡ (trade s n).terms.quantity) n os refl
    (each_map (λ m. alike (trade s n).terms (trade s m).terms ≡ true) (λ m. (trade s m).terms.quantity ≡ (trade s n).terms.quantity)
    (λ m e. sym (alike_parts (trade s n).terms (trade s m).terms e).quantity) os (c.equal n os l))

pub record Ends (s : State) (first last : ℕ) : Type 0 where
  pub level : Level (entries_held (trade s first).seller) (entries_held (trade s last).buyer)
  pub sellers : 0 < length (entries_held (trade s first).seller)
  pub buyers : 0 < length (entries_held (trade s last).buyer)

pub full_ends : (day : ℕ) (h : History) (s : State) → Sides day h s → Chains s → Each SoundTrade s.trades.rows → (first : ℕ) (others : List ℕ) → Full s first others
    → Ends s first (final first others)
full_ends day h s sides chains sound first others full =
    let one : both_confirmed (trade s first) ≡ true = full.confirmed.0 in
    let end : both_confirmed (trade s (final first others)) ≡ true = final_each (λ m. both_confirmed (trade s m) ≡ true) first others one full.confirmed.1 in
    let a : SoundTrade (trade s first) = at_confirmed SoundTrade s first sound one in
    let z : SoundTrade (trade s (final first others)) = at_confirmed SoundTrade s (final first others) sound end in
    let sold = confirmed_total day h s sides Seller first one in
    let bought = confirmed_total day h s sides Buyer (final first others) end in
    let same = quantity_same s chains first others full.chain.linked in
    record {
      level = (a.seller, z.buyer, sold ∙ sym same ∙ sym bought);
      sellers = some_entries (entries_held (trade s first).seller) (subst (λ n. 0 < n) (sym sold) a.quantity);
      buyers = some_entries (entries_held (trade s (final first others)).buyer) (subst (λ n. 0 < n) (sym bought) z.quantity);
    }

-- ── A completed chain ──

pub final_last : (x : Trade) (us : List Trade) → final (number x) (map number us) ≡ number (last_of (x ∷ us))
final_last x [] = refl
final_last x (u ∷ us) = final_last u us

last_each : (P : Trade → Type 0) (x : Trade) (us : List Trade) → Each P (x ∷ us) → P (last_of (x ∷ us))
last_each P x [] h = h.0
last_each P x (u ∷ us) h = last_each P u us h.1

-- the end trades of the chain as they stand after numbering
found_part : {Y : Type 0} (g : Trade → Y) → ((t : Trade) → g (numbered t) ≡ g t) → (c : List Trade) (t : Table Trade) (u : Trade) → Found t.rows u
    → g (trade_in (all_numbered c t).rows (number u)) ≡ g u
found_part g same c t u f = numbered_part g same c t (number u) ∙ ap (λ o. g (or_else no_trade o)) f

-- c was completed in u, with s's numbers; t is what is left
pub paired_after : (b : Beginning) (h k : History) (s u : State) (x : Trade) (us : List Trade)
    → Issued b h s.selic s.control → Unnumbered s u → Each (Found u.trades.rows) (x ∷ us) → length (chain_matches (x ∷ us)) ≤ length (issuer (x ∷ us) s)
    → Each SoundTrade u.trades.rows → Sides b.day k (numbering (x ∷ us) u) → Chains (numbering (x ∷ us) u) → Full (numbering (x ∷ us) u) (number x) (map number us)
    → Paired (begun_for b (trade (numbering (x ∷ us) u) (number x)).terms) (entries_held (trade (numbering (x ∷ us) u) (number x)).seller)
    (entries_held (trade (numbering (x ∷ us) u) (final (number x) (map number us))).buyer) (new_pairs (x ∷ us) u)
unfolding numbering
paired_after b h k s u x us issued same found enough sound sides chains full =
    let c : List Trade = x ∷ us in
    let z : Trade = last_of c in
    let terms : (trade (numbering c u) (number x)).terms ≡ x.terms = found_part (λ t. t.terms) (λ _. refl) c u.trades x found.0 in
    let sold : (trade (numbering c u) (number x)).seller ≡ x.seller = found_part (λ t. t.seller) (λ _. refl) c u.trades x found.0 in
    let bought : (trade (numbering c u) (number z)).buyer ≡ z.buyer = found_part (λ t. t.buyer) (λ _. refl) c u.trades z (last_each (Found u.trades.rows) x us found) in
    let ends : Ends (numbering c u) (number x) (final (number x) (map number us)) = full_ends b.day k (numbering c u) sides chains (numbered_sound c u.trades sound) (number x) (map number us) full in
    let there : Ends (numbering c u) (number x) (number z) = subst (Ends (numbering c u) (number x)) (final_last x us) ends in
    let left : issuer c s ≡ issuer c u = sym (ap (λ l. cond (by_selic c) l u.control) same.selic ∙ ap (λ l. cond (by_selic c) s.selic l) same.control) in
    let begun : begun_for b x.terms ≡ given (by_selic c) b.day h ++ issuer c u = begun_before b h (by_selic c) s.selic s.control issued ∙ ap (λ l. given (by_selic c) b.day h ++ l) left in
    let level : Level (entries_held x.seller) (entries_held z.buyer) = subst (λ d. Level (entries_held x.seller) (entries_held d)) bought (subst (λ d. Level (entries_held d) (entries_held (trade (numbering c u) (number z)).buyer)) sold there.level) in
    let paired : Paired (begun_for b x.terms) (entries_held x.seller) (entries_held z.buyer) (new_pairs c u) =
    pairs_paired (begun_for b x.terms) (given (by_selic c) b.day h) (issuer c u) (number x) (number z) (entries_held x.seller) (entries_held z.buyer) begun level
    (subst (λ d. 0 < length (entries_held d)) sold there.sellers) (subst (λ d. 0 < length (entries_held d)) bought there.buyers) (omega (arith, enough, ap length left)) in
    subst (λ n. Paired (begun_for b (trade (numbering c u) (number x)).terms) (entries_held (trade (numbering c u) (number x)).seller) (entries_held (trade (numbering c u) n).buyer) (new_pairs c u)) (sym (final_last x us))
    (subst (λ d. Paired (begun_for b (trade (numbering c u) (number x)).terms) (entries_held (trade (numbering c u) (number x)).seller) (entries_held d) (new_pairs c u)) (sym bought)
    (subst (λ d. Paired (begun_for b (trade (numbering c u) (number x)).terms) (entries_held d) (entries_held z.buyer) (new_pairs c u)) (sym sold)
    (subst (λ e. Paired (begun_for b e) (entries_held x.seller) (entries_held z.buyer) (new_pairs c u)) (sym terms) paired)))
