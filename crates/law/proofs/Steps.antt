-- Every request keeps the pairs lawful.
use Rattle.keyed.proofs.Words.{true, false, ◌&&◌, List, [], ◌∷◌, ◌++◌, map, ◌⊎◌, inl, inr, ⊎_elim, ◌≡◌, refl, sym, ap, ap₂, subst, ◌∙◌, ℕ, ◌≤◌, ◌<◌, eqb, length, cases_eq, ne_eqb, eq-eqb, both_ways, and_parts, Some}
use Rattle.law.proofs.Subject.{Pair, Side, Buyer, Seller, is_some, those, Each, Table, find, Listed, Request, is_confirmed, total, entries_held, number, numbered, Trade, trade_in, last_of, chain_matches, issuer, new_pairs, all_numbered, numbering, confirms_in, with_numbers, History, Beginning, State, trade, Sides, Pairs, final, pairs_of}
use Rattle.rows.proofs.Sides.{confirmed_filled, some_entries}
use Rattle.chains.proofs.Matches.{all_name}
use Rattle.chains.proofs.Ties.{first_is}
use Rattle.chains.proofs.Walk.{Not0, far, joined}
use Rattle.chains.proofs.Walks.{far_stops, far_far, far_not0, member}
use Rattle.law.proofs.Books.{Sound, EndsHold, walk_in}
use Rattle.law.proofs.Bridge.{joined_yes, joined_no}
use Rattle.law.proofs.ChainLaw.{chains}
use Rattle.law.proofs.ChainRows.{Found}
use Rattle.law.proofs.Chained.{tie_at, ahead, trade_number}
use Rattle.law.proofs.Completed.{paired_after, at_confirmed, final_last}
use Rattle.law.proofs.Completes.{Confirming, conf_half, conf_there, conf_walk, conf_none, conf_here, conf_open, conf_line, conf_first, numbering_view}
use Rattle.law.proofs.Confirmers.{Confirmer, confirmer, including, intermediating, one_side, two_sides}
use Rattle.law.proofs.Events.{Unnumbered}
use Rattle.law.proofs.Fair.{Adds}
use Rattle.law.proofs.Froze.{Same, same_self, same_then, Frozen, frozen_then, changed_alike, same_next, stays, was_full}
use Rattle.law.proofs.Fulls.{behind, num_full, full_num}
use Rattle.law.proofs.Histories.{Counted, counted_of, AllName, pairs_kept}
use Rattle.law.proofs.PairLaw.{Full, pairs_unchanged, pairs_written, chain_same}
use Rattle.law.proofs.Passed.{Enough, Passed}
use Rattle.law.proofs.Placed.{Leaves}
use Rattle.law.proofs.Quantities.{SoundTrade}
use Rattle.law.proofs.Shown.{ends, view}
use Rattle.law.proofs.Views.{View, next, prev, first, whole_chain, numbered as numbered_view}

-- ── The ends hold something ──

pub ends_hold : (p : State) → Each SoundTrade p.trades.rows → ((w : Side) → Each (Adds w) p.trades.rows) → EndsHold p
ends_hold p sound adds m z c =
    let q = and_parts (is_confirmed (trade p m).buyer.state) (is_confirmed (trade p m).seller.state) c in
    let worth : 0 < (trade p m).terms.quantity = (at_confirmed SoundTrade p m sound c).quantity in
    let sold : total (entries_held (trade p m).seller) ≡ (trade p m).terms.quantity = at_confirmed (Adds Seller) p m (adds Seller) c (confirmed_filled (trade p m).seller.state q.1) in
    let bought : total (entries_held (trade p m).buyer) ≡ (trade p m).terms.quantity = at_confirmed (Adds Buyer) p m (adds Buyer) c (confirmed_filled (trade p m).buyer.state q.0) in
    (some_entries (entries_held (trade p m).seller) (subst (λ k. 0 < k) (sym sold) worth), some_entries (entries_held (trade p m).buyer) (subst (λ k. 0 < k) (sym bought) worth))

-- ── A request that may complete a chain has numbers enough ──

pub enough : (r : List Listed) (s : State) (q : Request) → Passed r s q → (n : ℕ) → confirms_in s q ≡ Some n → Enough r s q
enough r s q e n c = go q n (confirmer s q n c) e
  where
    go : (q : Request) (n : ℕ) → Confirmer s q n → Passed r s q → Enough r s q
    go _ _ (including q now) e = e.own.enough
    go _ _ (one_side q) e = e.own.enough
    go _ _ (intermediating q now) e = e.own.enough
    go _ _ (two_sides q) e = e.own.enough

-- ── Numbering leaves the parts ──

rows_alike : (c : List Trade) (t : Table Trade) (m : ℕ) → Same (trade_in (all_numbered c t).rows m) (trade_in t.rows m)
rows_alike [] t m = same_self _
rows_alike (u ∷ c) t m =
    same_then _ _ _ (rows_alike c _ m) (changed_alike (number u) numbered t.rows (λ x. record { terms = refl; numbered = λ _. refl; buyer = refl; seller = refl }) m)

numbering_frozen : (c : List Trade) (p : State) → Frozen p (numbering c p)
unfolding numbering
numbering_frozen c p = record { parts = λ m h. rows_alike c p.trades m; intermediations = λ w m h. refl }

pub with_numbers_frozen : (c : List Trade) (p : State) → Frozen p (with_numbers c p)
with_numbers_frozen [] p = record { parts = λ m h. same_self (trade p m); intermediations = λ w m h. refl }
with_numbers_frozen (u ∷ c) p = numbering_frozen (u ∷ c) p

-- ── The pairs ──

-- the pairs of each chain that was whole and confirmed are as they were
abbrev pub OldPairs : State → State → Type 0
OldPairs s t = (f : ℕ) (os : List ℕ) → Full s f os → pairs_of t f (final f os) ≡ pairs_of s f (final f os)

module _ (b : Beginning) (h : History) (s : State) (g : Sound s) (law : Pairs b h s) (p : State) (leaves : Leaves s p) (same : Unnumbered s p) where
  -- no chain was completed
  pub unchanged : (k : History) → Sound p → Counted b k p → Pairs b k p
  unchanged k gp counted = pairs_unchanged b h k s p (chains p gp) law counted (ap (λ t. t.rows) same.pairs) (stays s p g gp leaves.frozen)
      (λ f os full. was_full s p g gp leaves.frozen f os full (leaves.fewer f (full_num p gp f os full).0))

  -- a chain was completed
  module _ (n : ℕ) (conf : Confirming p n) (open_one : (view s).num n ≡ false) (all_sure : whole_chain (view p) n ≡ true)
      (found : Each (Found p.trades.rows) (conf_line p n conf)) (numbers : length (chain_matches (conf_line p n conf)) ≤ length (issuer (conf_line p n conf) s))
      (sound : Each SoundTrade p.trades.rows) (k : History) where
    abbrev f : ℕ
    f = first (view p) n

    abbrev us : List Trade
    us = map (trade_in p.trades.rows) (ahead p.trades.rows p.intermediations.rows (conf_half p n conf) (conf_there p n conf) Buyer (first (view p) n))

    abbrev t : State
    t = numbering (conf_line p n conf) p

    shown : view t ≡ numbered_view (map ends (new_pairs (conf_line p n conf) p)) n (view p)
    shown = numbering_view p (conf_half p n conf) (conf_there p n conf) (conf_walk p n conf) (conf_none p n conf) n conf.some (conf_here p n conf) (conf_open p n conf) all_sure

    numbers_behind : map number us ≡ behind (next (view p)) f
    numbers_behind =
        let ts = p.trades.rows in
        let nx = next (view p) in
        let a = first (view p) n in
        let there : (j : ℕ) → Not0 (nx j) → is_some (find number (nx j) ts) ≡ true = λ j y. conf_there p n conf Seller (tie_at ts Buyer j) y in
        ⊎_elim (λ (e : nx a ≡ 0). rw (eq-eqb _ _ e) refl)
        (λ (e : Not0 (nx a)).
        ⊎_elim (λ (d : nx (nx a) ≡ 0). rw (ne_eqb _ _ e, eq-eqb _ _ d) (ap (λ j. j ∷ []) (trade_number ts (nx a) (there a e))))
        (λ (d : Not0 (nx (nx a))). rw (ne_eqb _ _ e, ne_eqb _ _ d) (ap₂ (λ i j. i ∷ (j ∷ [])) (trade_number ts (nx a) (there a e)) (trade_number ts (nx (nx a)) (there (nx a) d))))
        (cases_eq (nx (nx a)) 0))
        (cases_eq (nx a) 0)

    abbrev x : Trade
    x = trade_in p.trades.rows (first (view p) n)

    is_first : number x ≡ f
    is_first = conf_first p n conf

    next_same : next (view t) ≡ next (view p)
    next_same = ap (λ (v : View). next v) shown

    num_f : (view t).num f ≡ true
    num_f = ap (λ (v : View). v.num f) shown
        ∙ joined_yes (prev (view p)) n (view p).num f (far_not0 (next (view p)) (prev (view p)) (conf_walk p n conf) n conf.some) (far_far (next (view p)) (prev (view p)) (conf_walk p n conf) n)

    prev_f : prev (view t) f ≡ 0
    prev_f = ap (λ (v : View). prev v f) shown ∙ far_stops (next (view p)) (prev (view p)) (conf_walk p n conf) n

    frozen_after : Frozen s t
    frozen_after = frozen_then s p t leaves.frozen (numbering_frozen (conf_line p n conf) p)

    module _ (gt : Sound t) where
      new_full : Full t (number x) (map number us)
      new_full = subst (λ a. Full t a (map number us)) (sym is_first) (subst (Full t f) (ap (λ (nx : ℕ → ℕ). behind nx f) next_same ∙ sym numbers_behind) (num_full t gt f num_f prev_f))

      along : (m : ℕ) → (Not0 m → (view s).num m ≡ true) → Not0 (next (view t) m) → (view s).num (next (view t) m) ≡ true
      along m hm z =
          let zm : Not0 m = λ y. z (ap (next (view t)) y ∙ (walk_in t gt).next_none) in
          let e : next (view t) m ≡ next (view s) m = same_next s t g gt frozen_after m (hm zm) in
          ap (view s).num e ∙ g.seen.numbers.num_next m (hm zm) (λ y. z (e ∙ y))

      not_before : Full s (number x) (map number us) → ⊥
      not_before full =
          let e : first (view t) n ≡ f = ap (λ (v : View). first v n) shown in
          let a : Not0 (first (view t) n) → (view s).num (first (view t) n) ≡ true = λ _. ap (view s).num (e ∙ sym is_first) ∙ (full_num s g (number x) (map number us) full).0 in
          both_ways _ open_one (member (next (view t)) (prev (view t)) (walk_in t gt) (λ m. Not0 m → (view s).num m ≡ true) n a (along _ a) (along _ (along _ a)) conf.some)

      back : (f' : ℕ) (os : List ℕ) → Full t f' os → Full s f' os ⊎ ((f' ≡ number x) × (os ≡ map number us))
      back f' os full =
          let q = full_num t gt f' os full in
          let j : joined (prev (view p)) n (view p).num f' ≡ true = ap (λ (v : View). v.num f') (sym shown) ∙ q.0 in
          let pp : prev (view p) f' ≡ 0 = ap (λ (v : View). prev v f') (sym shown) ∙ q.1 in
          ⊎_elim (λ (e : far (prev (view p)) f' ≡ far (prev (view p)) n).
          let same_one : f' ≡ number x = sym (first_is (next (view p)) (prev (view p)) (conf_walk p n conf) f' pp) ∙ e ∙ sym is_first in
          inr (same_one, chain_same t (chains t gt) (number x) os (map number us) (subst (λ a. Full t a os) same_one full).chain new_full.chain))
          (λ (e : far (prev (view p)) f' ≡ far (prev (view p)) n → ⊥).
          inl (was_full s t g gt frozen_after f' os full (leaves.fewer f' (sym (joined_no (prev (view p)) n (view p).num f' (λ _ d. e d)) ∙ j))))
          (cases_eq (far (prev (view p)) f') (far (prev (view p)) n))

      pub written : Counted b k t → Sides b.day k t → Pairs b k t
      unfolding numbering
      written counted sides =
          let new = new_pairs (conf_line p n conf) p in
          pairs_written b h k s t new (number x) (map number us) (chains t gt) law counted (ap (λ r. r.rows ++ new) same.pairs) (stays s t g gt frozen_after)
          (record {
            full = new_full;
            before = not_before;
            all_name = subst (λ l. AllName (number x) l new) (sym (final_last x us)) (all_name (number x) (number (last_of (conf_line p n conf))) (chain_matches (conf_line p n conf)) (issuer (conf_line p n conf) p));
            paired = paired_after b h k s p x us (counted_of b h s law).issued same found numbers sound sides (chains t gt) new_full;
          })
          back

      pub old_pairs : OldPairs s t
      unfolding numbering
      old_pairs f' os full =
          let new = new_pairs (conf_line p n conf) p in
          ap (λ (r : Table Pair). those (λ q. eqb q.first f' && eqb q.last (final f' os)) (r.rows ++ new)) same.pairs
          ∙ pairs_kept f' (final f' os) (number x) (final (number x) (map number us)) s.pairs.rows new differ
          (subst (λ l. AllName (number x) l new) (sym (final_last x us)) (all_name (number x) (number (last_of (conf_line p n conf))) (chain_matches (conf_line p n conf)) (issuer (conf_line p n conf) p)))
        where
          differ : (number x ≡ f') × (final (number x) (map number us) ≡ final f' os) → ⊥
          differ e =
              let there : Full t f' (map number us) = subst (λ a. Full t a (map number us)) e.0 new_full in
              let eq : os ≡ map number us = chain_same t (chains t gt) f' os (map number us) (stays s t g gt frozen_after f' os full).0.chain there.chain in
              not_before (subst (λ a. Full s a (map number us)) (sym e.0) (subst (Full s f') eq full))
