-- A call that confirms leaves the book sound: a chain that it completes is numbered.
use Rattle.std.specs.List.{All, Contains}
use Rattle.std.proofs.lemmas.List.Elements.{All-cons, All-contains, All-nil}
use Rattle.keyed.proofs.Words.{true, false, cond, List, [], ◌∷◌, ◌++◌, map, ⊎_elim, ◌≡◌, refl, sym, ap, ap₂, subst, fun_ext, ◌∙◌, ℕ, zero, suc, ◌+◌, ◌≤◌, ◌<◌, arith, length, cases_eq, cases_Bool, ne_eqb, eq-eqb, and_parts, not-true, false≢true, Some, None}
use Rattle.law.proofs.Subject.{intermediation_in, Entry, Intermediation, Pair, Side, Buyer, Seller, or_else, is_some, all, Table, find, changed, entries_held, number, numbered, both_confirmed, Confirmed, Trade, trade_in, last_of, matched, if_all_confirmed, chain_confirmed, chain_matches, issuer, new_pairs, all_numbered, numbering, with_numbers, State, chain_of, trade}
use mathlib.Core.List.{map-append}
use Rattle.keyed.proofs.Keys.{row_past}
use Rattle.keyed.proofs.Lists.{none_by, none_some}
use Rattle.chains.proofs.Walk.{put, Not0, Walk, Half, Pair as Ends, pair}
use Rattle.chains.proofs.Walks.{put_cases, far_not0, far_keeps, far_far, far_across, whole_parts, whole_any, turned}
use Rattle.chains.specs.Following.{first_of}
use Rattle.chains.specs.Pairing.{matches, given_numbers}
use Rattle.chains.specs.declared.pairing.Match.{Match}
use Rattle.law.proofs.Bridge.{numbered_one, marked}
use Rattle.law.proofs.Chained.{tie_at, leg_at, line, chain_is, all_line, last_line, trade_number}
use Rattle.law.proofs.Confirms.{leg_left, leg_right, part_kept, whole_kept}
use Rattle.law.proofs.Kept.{walk, full_none, full_parts, bought_live, sold_live}
use Rattle.law.proofs.Shown.{ends, shows, view, Here, None0, here_after, none_after}
use Rattle.law.proofs.Views.{re_numbered, View, sure, next, prev, full, full_by, first, last, whole_chain, sides, numbered as numbered_view, leg, live, Sound, with_pairs}

changed_none : (n : ℕ) (f : Trade → Trade) (ts : List Trade) → find number n ts ≡ None → changed number n f ts ≡ ts
changed_none n f [] h = refl
changed_none n f (t ∷ ts) h =
    ⊎_elim (λ (e : number t ≡ n). absurd (none_some t (sym (rw (eq-eqb _ _ e) at h))))
    (λ (e : number t ≡ n → ⊥). rw (ne_eqb _ _ e) (ap (λ us. t ∷ us) (changed_none n f ts (sym (row_past number t ts n e) ∙ h))))
    (cases_eq (number t) n)

-- each pair written names the two trades
abbrev NamesBoth : ℕ → ℕ → Ends → Type 0
NamesBoth a b p = (p.opens ≡ a) × (p.ends ≡ b)

name_both : (a b : ℕ) (ms : List Match) (ns : List ℕ) → All (NamesBoth a b) (map ends (given_numbers a b ms ns))
name_both a b [] ns = All-nil (NamesBoth a b)
name_both a b (m ∷ ms) [] = All-nil (NamesBoth a b)
name_both a b (m ∷ ms) (n ∷ ns) = All-cons (NamesBoth a b) (pair a b) (map ends (given_numbers a b ms ns)) (refl, refl) (name_both a b ms ns)

pub written_names : (a b : ℕ) (ms : List Match) (ns : List ℕ) (p : Ends) → Contains (map ends (given_numbers a b ms ns)) p → (p.opens ≡ a) × (p.ends ≡ b)
written_names a b ms ns p h = All-contains (NamesBoth a b) (map ends (given_numbers a b ms ns)) p (name_both a b ms ns) h

pub written_some : (a b : ℕ) (ms : List Match) (ns : List ℕ) → 0 < length ms → length ms ≤ length ns
    → Contains (map ends (given_numbers a b ms ns)) (pair a b)
written_some a b [] ns h l = absurd (omega arith)
written_some a b (m ∷ ms) [] h l = absurd (omega arith)
written_some a b (m ∷ ms) (n ∷ ns) h l = (0, omega arith, refl)

-- the ties of a book
pub halves : (ts : List Trade) (xs : List Intermediation) (ps : List Pair) (v : View) → Half v.buys v.bought → Half v.sells v.sold
    → ((n : ℕ) → (shows ts xs ps).buys n ≡ v.buys n) → ((n : ℕ) → (shows ts xs ps).sells n ≡ v.sells n)
    → ((n : ℕ) → (shows ts xs ps).bought n ≡ v.bought n) → ((n : ℕ) → (shows ts xs ps).sold n ≡ v.sold n)
    → (w : Side) → Half (tie_at ts w) (leg_at xs w)
halves ts xs ps v b s e1 e2 e3 e4 Buyer = subst (λ f. Half f (λ i. (intermediation_in xs i).bought)) (sym (fun_ext e1)) (subst (Half v.buys) (sym (fun_ext e3)) b)
halves ts xs ps v b s e1 e2 e3 e4 Seller = subst (λ f. Half f (λ i. (intermediation_in xs i).sold)) (sym (fun_ext e2)) (subst (Half v.sells) (sym (fun_ext e4)) s)

module _ (p : State) (half : (w : Side) → Half (tie_at p.trades.rows w) (leg_at p.intermediations.rows w))
    (there : (w : Side) (i : ℕ) → Not0 (leg_at p.intermediations.rows w i) → is_some (find number (leg_at p.intermediations.rows w i) p.trades.rows) ≡ true)
    (w : Walk (next (view p)) (prev (view p))) where
  abbrev pub line_in : ℕ → List Trade
  line_in f = line p.trades.rows p.intermediations.rows half there f

  pub chain_of_is : (n : ℕ) → is_some (find number n p.trades.rows) ≡ true → Not0 n → chain_of p n ≡ line_in (first (view p) n)
  chain_of_is n h z = ap (λ o. map (trade p) (or_else [] o)) (chain_is p.trades.rows p.intermediations.rows half there w n h z)

  pub full_is : (k : ℕ) → Not0 k → full (view p) k ≡ both_confirmed (trade_in p.trades.rows k)
  unfolding full_by
  full_is k z = rw (ne_eqb _ _ z) refl

  pub confirmed_line : (n : ℕ) → Not0 n → all both_confirmed (line_in (first (view p) n)) ≡ whole_chain (view p) n
  confirmed_line n z =
      all_line p.trades.rows p.intermediations.rows half there both_confirmed (full (view p)) (first (view p) n) w.next_none (full_none _ _) full_is
      (far_not0 (next (view p)) (prev (view p)) w n z)

  -- the rows of a line numbered
  rows_numbered : (f : ℕ) (t : Table Trade) → t.rows ≡ p.trades.rows → None0 p.trades.rows
      → (Not0 f → is_some (find number f p.trades.rows) ≡ true) → Not0 f
      → (all_numbered (line_in f) t).rows
      ≡ changed number (next (view p) (next (view p) f)) numbered (changed number (next (view p) f) numbered (changed number f numbered p.trades.rows))
  rows_numbered f t e z hf zf =
      let ts = p.trades.rows in
      let nx = next (view p) in
      let us = changed number f numbered ts in
      let nu : None0 us = none_after f numbered ts (λ _. refl) z in
      let us2 = changed number (nx f) numbered us in
      let nu2 : None0 us2 = none_after (nx f) numbered us (λ _. refl) nu in
      let there_next : (k : ℕ) → Not0 (nx k) → is_some (find number (nx k) ts) ≡ true = λ k y. there Seller (tie_at ts Buyer k) y in
      ⊎_elim (λ (d : nx f ≡ 0).
      rw (eq-eqb (nx f) 0 d, d, w.next_none, trade_number ts f (hf zf), e)
      (sym (ap (changed number 0 numbered) (changed_none 0 numbered us (none_by _ nu)) ∙ changed_none 0 numbered us (none_by _ nu))))
      (λ (d : Not0 (nx f)).
      ⊎_elim (λ (g : nx (nx f) ≡ 0). rw (ne_eqb (nx f) 0 d, eq-eqb (nx (nx f)) 0 g, trade_number ts f (hf zf), trade_number ts (nx f) (there_next f d), g, e) (sym (changed_none 0 numbered us2 (none_by _ nu2))))
      (λ (g : Not0 (nx (nx f))).
      rw (ne_eqb (nx f) 0 d, ne_eqb (nx (nx f)) 0 g, trade_number ts f (hf zf), trade_number ts (nx f) (there_next f d), trade_number ts (nx (nx f)) (there_next (nx f) g), e) refl)
      (cases_eq (nx (nx f)) 0))
      (cases_eq (nx f) 0)

  -- and what they show
  module _ (z0 : None0 p.trades.rows) (n : ℕ) (n_is : Not0 n) (n_there : is_some (find number n p.trades.rows) ≡ true)
      (open_ones : (k : ℕ) → full (view p) k ≡ true → Not0 k → live (view p) k ≡ true) (all_sure : whole_chain (view p) n ≡ true) where
    pub numbering_view : view (numbering (line_in (first (view p) n)) p) ≡ numbered_view (map ends (new_pairs (line_in (first (view p) n)) p)) n (view p)
    unfolding numbering
    numbering_view =
        let ts = p.trades.rows in
        let xs = p.intermediations.rows in
        let f = first (view p) n in
        let g = next (view p) f in
        let h = next (view p) g in
        let new = new_pairs (line_in f) p in
        let qs = p.pairs.rows ++ new in
        let parts = whole_parts (next (view p)) (prev (view p)) (full (view p)) f all_sure in
        let lf : Not0 f → live (view p) f ≡ true = open_ones f parts.0 in
        let lg : Not0 g → live (view p) g ≡ true = open_ones g parts.1 in
        let lh : Not0 h → live (view p) h ≡ true = open_ones h parts.2 in
        let hf : Here f ts = λ y. (and_parts _ _ (lf y)).0 in
        let hg : Here g ts = λ y. (and_parts _ _ (lg y)).0 in
        let hh : Here h ts = λ y. (and_parts _ _ (lh y)).0 in
        let us = changed number f numbered ts in
        let ws = changed number g numbered us in
        let nu : None0 us = none_after f numbered ts (λ _. refl) z0 in
        let nw : None0 ws = none_after g numbered us (λ _. refl) nu in
        let hg1 : Here g us = here_after f numbered ts (λ _. refl) g hg in
        let hh1 : Here h us = here_after f numbered ts (λ _. refl) h hh in
        let hh2 : Here h ws = here_after g numbered us (λ _. refl) h hh1 in
        let e1 : shows us xs qs ≡ re_numbered (put f true (view p).num) (shows ts xs qs) = numbered_one f ts xs qs hf z0 (λ y. not-true _ (and_parts _ _ (lf y)).1) in
        let e2 : shows ws xs qs ≡ re_numbered (put g true (put f true (view p).num)) (shows ts xs qs) =
        numbered_one g us xs qs hg1 nu (λ y. ap (λ (v : View). v.cancelled g) e1 ∙ not-true _ (and_parts _ _ (lg y)).1)
        ∙ ap (λ (v : View). re_numbered (put g true v.num) v) e1 in
        let e3 : shows (changed number h numbered ws) xs qs ≡ re_numbered (put h true (put g true (put f true (view p).num))) (shows ts xs qs) =
        numbered_one h ws xs qs hh2 nw (λ y. ap (λ (v : View). v.cancelled h) e2 ∙ not-true _ (and_parts _ _ (lh y)).1)
        ∙ ap (λ (v : View). re_numbered (put h true v.num) v) e2 in
        ap (λ rows. shows rows xs qs) (rows_numbered f p.trades refl z0 hf (far_not0 (next (view p)) (prev (view p)) w n n_is))
        ∙ e3 ∙ (λ i. with_pairs (map-append ends p.pairs.rows new i) (re_numbered (fun_ext (marked (next (view p)) (prev (view p)) w n (view p).num) i) (view p)))

-- what a confirming call leaves, before anything is numbered: sides of one chain confirmed in a sound book
pub record Confirming (p : State) (n : ℕ) : Type 0 where
  pub base : View
  pub sound : Sound base
  pub bought : ℕ
  pub sold : ℕ
  pub leg_is : leg bought sold ≡ n
  pub some : Not0 n
  pub bought_live : Not0 bought → live base bought ≡ true
  pub sold_live : Not0 sold → live base sold ≡ true
  pub tied : Not0 bought → Not0 sold → next base bought ≡ sold
  pub shown : view p ≡ sides bought sold Confirmed base

matched_some : (most : ℕ) (sold bought : List Entry) → 0 < most → 0 < length sold → 0 < length bought → 0 < length (matched most sold bought)
unfolding matched
matched_some zero sold bought m d b = absurd (omega arith)
matched_some (suc most) [] bought m d b = absurd (omega arith)
matched_some (suc most) (s ∷ sold) [] m d b = absurd (omega arith)
matched_some (suc most) (s ∷ sold) (x ∷ bought) m d b = omega arith

matches_some : (sold bought : List Entry) → 0 < length sold → 0 < length bought → 0 < length (matches sold bought)
matches_some sold bought d b = matched_some (length sold + length bought) sold bought (omega arith) d b

module _ (p : State) (n : ℕ) (k : Confirming p n) where
  pub conf_half : (w : Side) → Half (tie_at p.trades.rows w) (leg_at p.intermediations.rows w)
  conf_half = halves p.trades.rows p.intermediations.rows p.pairs.rows k.base k.sound.buying k.sound.selling
      (λ m. ap (λ (v : View). v.buys m) k.shown) (λ m. ap (λ (v : View). v.sells m) k.shown)
      (λ m. ap (λ (v : View). v.bought m) k.shown) (λ m. ap (λ (v : View). v.sold m) k.shown)

  pub conf_there : (w : Side) (i : ℕ) → Not0 (leg_at p.intermediations.rows w i) → is_some (find number (leg_at p.intermediations.rows w i) p.trades.rows) ≡ true
  conf_there Buyer i z =
      let e : (intermediation_in p.intermediations.rows i).bought ≡ k.base.bought i = ap (λ (v : View). v.bought i) k.shown in
      ap (λ (v : View). v.present (intermediation_in p.intermediations.rows i).bought) k.shown ∙ ap k.base.present e
      ∙ (and_parts _ _ (bought_live k.base k.sound i (λ y. z (e ∙ y)))).0
  conf_there Seller i z =
      let e : (intermediation_in p.intermediations.rows i).sold ≡ k.base.sold i = ap (λ (v : View). v.sold i) k.shown in
      ap (λ (v : View). v.present (intermediation_in p.intermediations.rows i).sold) k.shown ∙ ap k.base.present e
      ∙ (and_parts _ _ (sold_live k.base k.sound i (λ y. z (e ∙ y)))).0

  pub conf_walk : Walk (next (view p)) (prev (view p))
  conf_walk = subst (λ v. Walk (next v) (prev v)) (sym k.shown) (walk k.base k.sound)

  pub conf_none : None0 p.trades.rows
  conf_none = ap (λ (v : View). v.present 0) k.shown ∙ k.sound.none

  leg_live : live k.base n ≡ true
  leg_live = ⊎_elim (λ (z : k.bought ≡ 0).
      let e : k.sold ≡ n = sym (leg_right k.bought k.sold z) ∙ k.leg_is in
      ap (live k.base) (sym e) ∙ k.sold_live (λ y. k.some (sym e ∙ y)))
      (λ (z : Not0 k.bought). ap (live k.base) (sym k.leg_is ∙ leg_left k.bought k.sold z) ∙ k.bought_live z)
      (cases_eq k.bought 0)

  pub conf_here : is_some (find number n p.trades.rows) ≡ true
  conf_here = ap (λ (v : View). v.present n) k.shown ∙ (and_parts _ _ leg_live).0

  pub conf_open : (m : ℕ) → full (view p) m ≡ true → Not0 m → live (view p) m ≡ true
  conf_open m h z =
      ap (λ (v : View). live v m) k.shown ∙
      ⊎_elim (λ (e : live k.base m ≡ true). e)
      (λ (e : live k.base m ≡ false).
      let q : sure (put k.bought Confirmed k.base.buyer m) ≡ true = ap (λ (v : View). sure (v.buyer m)) (sym k.shown) ∙ (full_parts (view p).buyer (view p).seller m z h).0 in
      put_cases (λ y. sure y ≡ true → live k.base m ≡ true) k.bought Confirmed k.base.buyer m
      (λ d y _. ap (live k.base) d ∙ k.bought_live (λ x. y (d ∙ x)))
      (λ _ s. absurd (false≢true (ap sure (sym (k.sound.blank m e).2) ∙ s))) q)
      (cases_Bool (live k.base m))

  abbrev pub conf_line : List Trade
  conf_line = line_in p conf_half conf_there conf_walk (first (view p) n)

  pub conf_chain : chain_of p n ≡ conf_line
  conf_chain = chain_of_is p conf_half conf_there conf_walk n conf_here k.some

  pub conf_first : number (first_of conf_line) ≡ first (view p) n
  conf_first = trade_number p.trades.rows (first (view p) n)
      (far_keeps (prev (view p)) (λ m. is_some (find number m p.trades.rows) ≡ true) (λ m _ z. conf_there Buyer (tie_at p.trades.rows Seller m) z) n conf_here)

  pub conf_last_is : last_of conf_line ≡ trade_in p.trades.rows (last (view p) n)
  conf_last_is = last_line p.trades.rows p.intermediations.rows conf_half conf_there (first (view p) n) conf_walk.next_none
      ∙ ap (trade_in p.trades.rows) (far_across (next (view p)) (prev (view p)) conf_walk n)

  pub conf_last : number (last_of conf_line) ≡ last (view p) n
  conf_last = ap number conf_last_is ∙ trade_number p.trades.rows (last (view p) n)
      (far_keeps (next (view p)) (λ m. is_some (find number m p.trades.rows) ≡ true) (λ m _ z. conf_there Seller (tie_at p.trades.rows Buyer m) z) n conf_here)

  pub conf_all : all both_confirmed conf_line ≡ whole_chain (view p) n
  conf_all = confirmed_line p conf_half conf_there conf_walk n k.some

  part : whole_chain (view p) n ≡ false → Sound (view p)
  part h = subst Sound (sym k.shown)
      (part_kept k.base k.sound k.bought k.sold (λ y. k.some (sym k.leg_is ∙ y)) k.bought_live k.tied
      (ap₂ whole_chain (sym k.shown) k.leg_is ∙ h))

  all_of_it : whole_chain (view p) n ≡ true → 0 < length (chain_matches conf_line) → length (chain_matches conf_line) ≤ length (issuer conf_line p)
      → Sound (view (numbering conf_line p))
  all_of_it h some enough =
      let new = map ends (new_pairs conf_line p) in
      let ef : number (first_of conf_line) ≡ first k.base (leg k.bought k.sold) = conf_first ∙ ap₂ first k.shown (sym k.leg_is) in
      let el : number (last_of conf_line) ≡ last k.base (leg k.bought k.sold) = conf_last ∙ ap₂ last k.shown (sym k.leg_is) in
      subst Sound (sym (numbering_view p conf_half conf_there conf_walk conf_none n k.some conf_here conf_open h ∙ ap₂ (numbered_view new) (sym k.leg_is) k.shown))
      (whole_kept k.base k.sound k.bought k.sold (λ y. k.some (sym k.leg_is ∙ y)) k.bought_live k.tied new
      (λ e i. let q = written_names (number (first_of conf_line)) (number (last_of conf_line)) (chain_matches conf_line) (issuer conf_line p) e i in (q.0 ∙ ef, q.1 ∙ el))
      _ (written_some (number (first_of conf_line)) (number (last_of conf_line)) (chain_matches conf_line) (issuer conf_line p) some enough)
      (ap₂ whole_chain (sym k.shown) k.leg_is ∙ h))

  -- the ends hold something
  ends_some : whole_chain (view p) n ≡ true
      → ((m : ℕ) → Not0 m → both_confirmed (trade_in p.trades.rows m) ≡ true → (0 < length (entries_held (trade_in p.trades.rows m).seller)) × (0 < length (entries_held (trade_in p.trades.rows m).buyer)))
      → 0 < length (chain_matches conf_line)
  ends_some h held =
      let nx = next (view p) in
      let pv = prev (view p) in
      let sure_at : (m : ℕ) → Not0 m → first (view p) m ≡ first (view p) n → both_confirmed (trade_in p.trades.rows m) ≡ true =
      λ m z e. sym (full_is p conf_half conf_there conf_walk m z) ∙ whole_any nx pv (full (view p)) conf_walk n m e h in
      let zf = far_not0 nx pv conf_walk n k.some in
      let zl = far_not0 pv nx (turned nx pv conf_walk) n k.some in
      let fl : first (view p) (last (view p) n) ≡ first (view p) n = far_across pv nx (turned nx pv conf_walk) n in
      let bought_some : 0 < length (entries_held (last_of conf_line).buyer) =
      subst (λ t. 0 < length (entries_held t.buyer)) (sym conf_last_is) (held (last (view p) n) zl (sure_at (last (view p) n) zl fl)).1 in
      matches_some _ _ (held (first (view p) n) zf (sure_at (first (view p) n) zf (far_far nx pv conf_walk n))).0 bought_some

  pub completed_sound
      : ((m : ℕ) → Not0 m → both_confirmed (trade_in p.trades.rows m) ≡ true → (0 < length (entries_held (trade_in p.trades.rows m).seller)) × (0 < length (entries_held (trade_in p.trades.rows m).buyer)))
      → length (chain_matches (chain_confirmed p (Some n))) ≤ length (issuer (chain_confirmed p (Some n)) p)
      → Sound (view (with_numbers (chain_confirmed p (Some n)) p))
  completed_sound held enough =
      subst (λ c. length (chain_matches (if_all_confirmed c)) ≤ length (issuer (if_all_confirmed c) p) → Sound (view (with_numbers (if_all_confirmed c) p))) (sym conf_chain) go enough
    where
      go : length (chain_matches (if_all_confirmed conf_line)) ≤ length (issuer (if_all_confirmed conf_line) p) → Sound (view (with_numbers (if_all_confirmed conf_line) p))
      go = ⊎_elim (λ (h : whole_chain (view p) n ≡ true).
          subst (λ b. length (chain_matches (cond b conf_line [])) ≤ length (issuer (cond b conf_line []) p) → Sound (view (with_numbers (cond b conf_line []) p))) (sym (conf_all ∙ h))
          (λ e. all_of_it h (ends_some h held) e))
          (λ (h : whole_chain (view p) n ≡ false).
          subst (λ b. length (chain_matches (cond b conf_line [])) ≤ length (issuer (cond b conf_line []) p) → Sound (view (with_numbers (cond b conf_line []) p))) (sym (conf_all ∙ h))
          (λ _. part h))
          (cases_Bool (whole_chain (view p) n))
