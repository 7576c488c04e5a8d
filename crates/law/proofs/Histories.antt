-- One more event: the pairs written, the rows named, the numbers given.
use Rattle.keyed.proofs.Words.{Bool, true, false, cond, ◌&&◌, List, [], ◌∷◌, ◌++◌, map, append_assoc, inl, inr, ◌≡◌, refl, sym, ap, subst, ◌∙◌, ℕ, ◌+◌, ◌-◌, arith, eqb, length, take, drop, take-append-drop, and_from, cases_Bool, cond_both, eqb-true, eqb-false, eq-eqb, Ok, Err}
use Rattle.law.proofs.Subject.{Answer, Written, Marked, Refusal, Pair, those, Each, is_selic, written, Event, History, Beginning, Call, event, rows_named, State, Pairs, plain, terms_in, given, closes, written_since}
use Rattle.std.proofs.lemmas.List.{take_all, drop_at}
use Rattle.std.proofs.lemmas.Bool.{and_left, and_right}
use mathlib.Core.Bool.{beq}
use Rattle.std.proofs.Common.{append-nil}
use Rattle.keyed.proofs.Lists.{each_map, those_append, those_all, those_none}
use Rattle.law.specs.Law.{Named, AllNamed}

-- ── The pairs of two trades ──

abbrev pub naming : ℕ → ℕ → Pair → Bool
naming first last p = eqb p.first first && eqb p.last last

abbrev pub AllName : ℕ → ℕ → List Pair → Type 0
AllName first last ps = Each (λ p. (p.first ≡ first) × (p.last ≡ last)) ps

pub naming_these : (first last : ℕ) (ps : List Pair) → AllName first last ps → those (naming first last) ps ≡ ps
naming_these first last ps h =
    those_all (naming first last) ps (each_map (λ p. (p.first ≡ first) × (p.last ≡ last)) (λ p. naming first last p ≡ true)
    (λ p e. and_from (eqb p.first first) (eqb p.last last) (eq-eqb p.first first e.0) (eq-eqb p.last last e.1)) ps h)

-- pairs of other trades
pub naming_others : (f l first last : ℕ) (ps : List Pair) → ((first ≡ f) × (last ≡ l) → ⊥) → AllName first last ps → those (naming f l) ps ≡ []
naming_others f l first last ps differ h =
    those_none (naming f l) ps (each_map (λ p. (p.first ≡ first) × (p.last ≡ last)) (λ p. naming f l p ≡ false) go ps h)
  where
    go : (p : Pair) → (p.first ≡ first) × (p.last ≡ last) → naming f l p ≡ false
    go p e =
        elim (cases_Bool (eqb p.first f)) [
          | inl t ↦
              elim (cases_Bool (eqb p.last l)) [
                | inl u ↦ absurd (differ (sym e.0 ∙ eqb-true p.first f t, sym e.1 ∙ eqb-true p.last l u))
                | inr u ↦ and_right (eqb p.first f) (eqb p.last l) u
              ]
          | inr t ↦ and_left (eqb p.first f) (eqb p.last l) t
        ]

-- new pairs behind the old: all that name these two are the new ones, if none did before
pub pairs_new : (first last : ℕ) (old new : List Pair) → those (naming first last) old ≡ [] → AllName first last new → those (naming first last) (old ++ new) ≡ new
pairs_new first last old new none h =
    those_append (naming first last) old new ∙ ap (λ l. l ++ those (naming first last) new) none ∙ naming_these first last new h

pub pairs_kept : (f l first last : ℕ) (old new : List Pair) → ((first ≡ f) × (last ≡ l) → ⊥) → AllName first last new
    → those (naming f l) (old ++ new) ≡ those (naming f l) old
pairs_kept f l first last old new differ h =
    those_append (naming f l) old new ∙ ap (λ k. those (naming f l) old ++ k) (naming_others f l first last new differ h) ∙ append-nil (those (naming f l) old)

-- ── The rows that an answer names ──

nil_of : (ps : List Pair) → length ps ≡ 0 → ps ≡ []
nil_of [] h = refl
nil_of (p ∷ ps) h = absurd (omega arith)

pub rows_named_new : (old new : List Pair) (n count : ℕ) → count ≡ length old → length new ≡ n → rows_named (Ok (written n count)) (old ++ new) ≡ new
rows_named_new old new n count c e =
    cond_both (eqb n 0) (Written 0 0) (Written n (count + 1)) (λ a. rows_named (Ok a) (old ++ new) ≡ new)
    (λ t. let z = eqb-true n 0 t in sym (nil_of new (omega arith)))
    (λ t. let m : count + 1 - 1 ≡ count = omega arith in
    ap (λ k. take n (drop k (old ++ new))) m ∙ ap (take n) (drop_at old new count (sym c)) ∙ take_all n new (omega arith))

pub named_new : (n count before grown : ℕ) → count ≡ before → grown ≡ n → Named (Ok (written n count)) before grown
named_new n count before grown c e =
    cond_both (eqb n 0) (Written 0 0) (Written n (count + 1)) (λ a. Named (Ok a) before grown)
    (λ t. let z = eqb-true n 0 t in (omega arith, inl (refl, refl)))
    (λ t. let z = eqb-false n 0 t in (e, inr (omega arith, omega arith)))

-- ── Numbers given ──

abbrev pub numbers : List Pair → List ℕ
numbers ps = map (λ p. p.number) ps

same_kept : (selic : Bool) (day : ℕ) (h : History) (k : Bool) (first : ℕ) (ps : List Pair) → is_selic (terms_in (plain day h) first).kind ≡ k → Each (λ p. p.first ≡ first) ps
    → those (λ p. beq (is_selic (terms_in (plain day h) p.first).kind) selic) ps ≡ cond (beq k selic) ps []
same_kept selic day h k first ps e each =
    cond_both (beq k selic) ps [] (λ l. those (λ p. beq (is_selic (terms_in (plain day h) p.first).kind) selic) ps ≡ l)
    (λ t. those_all (λ p. beq (is_selic (terms_in (plain day h) p.first).kind) selic) ps
    (each_map (λ p. p.first ≡ first) (λ p. beq (is_selic (terms_in (plain day h) p.first).kind) selic ≡ true)
    (λ p f. ap (λ m. beq (is_selic (terms_in (plain day h) m).kind) selic) f ∙ ap (λ b. beq b selic) e ∙ t) ps each))
    (λ t. those_none (λ p. beq (is_selic (terms_in (plain day h) p.first).kind) selic) ps
    (each_map (λ p. p.first ≡ first) (λ p. beq (is_selic (terms_in (plain day h) p.first).kind) selic ≡ false)
    (λ p f. ap (λ m. beq (is_selic (terms_in (plain day h) m).kind) selic) f ∙ ap (λ b. beq b selic) e ∙ t) ps each))

-- an event that wrote pairs of one chain, its first trade of this kind
pub given_more : (selic : Bool) (day : ℕ) (h : History) (e : Event) (k : Bool) (first : ℕ) → is_selic (terms_in (plain day h) first).kind ≡ k → Each (λ p. p.first ≡ first) e.wrote
    → given selic day (e ∷ h) ≡ given selic day h ++ numbers (cond (beq k selic) e.wrote [])
unfolding given
given_more selic day h e k first is each = ap (λ l. given selic day h ++ numbers l) (same_kept selic day h k first e.wrote is each)

pub given_none : (selic : Bool) (day : ℕ) (h : History) (e : Event) → e.wrote ≡ [] → given selic day (e ∷ h) ≡ given selic day h
unfolding given
given_none selic day h e none =
    ap (λ l. given selic day h ++ numbers (those (λ p. beq (is_selic (terms_in (plain day h) p.first).kind) selic) l)) none ∙ append-nil (given selic day h)

-- what was given with what is left is what there was
pub record Issued (b : Beginning) (h : History) (selic control : List ℕ) : Type 0 where
  pub selic_numbers : given true b.day h ++ selic ≡ b.selic
  pub control_numbers : given false b.day h ++ control ≡ b.control

moved : (given : List ℕ) (n : ℕ) (left begun : List ℕ) → given ++ left ≡ begun → given ++ take n left ++ drop n left ≡ begun
moved given n left begun e = append_assoc given (take n left) (drop n left) ∙ ap (λ l. given ++ l) (take-append-drop n left) ∙ e

pub issued_more : (b : Beginning) (h : History) (e : Event) (k : Bool) (first n : ℕ) (selic control : List ℕ)
    → is_selic (terms_in (plain b.day h) first).kind ≡ k → Each (λ p. p.first ≡ first) e.wrote → numbers e.wrote ≡ take n (cond k selic control)
    → Issued b h selic control → Issued b (e ∷ h) (cond k (drop n selic) selic) (cond k control (drop n control))
issued_more b h e true first n selic control is each ns i = record {
  selic_numbers = ap (λ l. l ++ drop n selic) (given_more true b.day h e true first is each ∙ ap (λ l. given true b.day h ++ l) ns)
      ∙ moved (given true b.day h) n selic b.selic i.selic_numbers;
  control_numbers = ap (λ l. l ++ control) (given_more false b.day h e true first is each ∙ append-nil (given false b.day h)) ∙ i.control_numbers;
}
issued_more b h e false first n selic control is each ns i = record {
  selic_numbers = ap (λ l. l ++ selic) (given_more true b.day h e false first is each ∙ append-nil (given true b.day h)) ∙ i.selic_numbers;
  control_numbers = ap (λ l. l ++ drop n control) (given_more false b.day h e false first is each ∙ ap (λ l. given false b.day h ++ l) ns)
      ∙ moved (given false b.day h) n control b.control i.control_numbers;
}

pub issued_none : (b : Beginning) (h : History) (e : Event) (selic control : List ℕ) → e.wrote ≡ [] → Issued b h selic control → Issued b (e ∷ h) selic control
issued_none b h e selic control none i = record {
  selic_numbers = ap (λ l. l ++ selic) (given_none true b.day h e none) ∙ i.selic_numbers;
  control_numbers = ap (λ l. l ++ control) (given_none false b.day h e none) ∙ i.control_numbers;
}

-- where an issuer's list stands: for `pairs_paired`
pub begun_before : (b : Beginning) (h : History) (k : Bool) (selic control : List ℕ) → Issued b h selic control
    → cond k b.selic b.control ≡ given k b.day h ++ cond k selic control
begun_before b h true selic control i = sym i.selic_numbers
begun_before b h false selic control i = sym i.control_numbers

-- ── What an event keeps of the pairs that needs no chains ──

pub record Counted (b : Beginning) (h : History) (s : State) : Type 0 where
  pub rows : s.pairs.rows ≡ written_since h
  pub answered : AllNamed h
  pub issued : Issued b h s.selic s.control

pub counted_of : (b : Beginning) (h : History) (s : State) → Pairs b h s → Counted b h s
counted_of b h s p = record {
  rows = p.rows;
  answered = p.answered;
  issued = record { selic_numbers = p.selic_numbers; control_numbers = p.control_numbers };
}

-- n new pairs of one chain
pub wrote_new : (b : Beginning) (h : History) (s t : State) (c : Call) (n first : ℕ) (k : Bool) (new : List Pair)
    → closes c.asked ≡ false → s.pairs.count ≡ length s.pairs.rows → t.pairs.rows ≡ s.pairs.rows ++ new → length new ≡ n
    → is_selic (terms_in (plain b.day h) first).kind ≡ k → Each (λ p. p.first ≡ first) new → numbers new ≡ take n (cond k s.selic s.control)
    → t.selic ≡ cond k (drop n s.selic) s.selic → t.control ≡ cond k s.control (drop n s.control)
    → Counted b h s → Counted b (event c (Ok (written n s.pairs.count)) t ∷ h) t
unfolding written_since
wrote_new b h s t c n first k new open_still count grown long is each ns selic control kept =
    let e : Event = event c (Ok (written n s.pairs.count)) t in
    let w : e.wrote ≡ new = ap (rows_named (Ok (written n s.pairs.count))) grown ∙ rows_named_new s.pairs.rows new n s.pairs.count count long in
    record {
      rows = grown ∙ ap (λ l. l ++ new) kept.rows ∙ ap (λ l. written_since h ++ l) (sym w) ∙ sym (ap (λ z. cond z [] (written_since h ++ e.wrote)) open_still);
      answered = (named_new n s.pairs.count (length (written_since h)) (length e.wrote) (count ∙ ap length kept.rows) (ap length w ∙ long), kept.answered);
      issued = rw (selic, control) (issued_more b h e k first n s.selic s.control is (subst (Each (λ p. p.first ≡ first)) (sym w) each) (ap numbers w ∙ ns) kept.issued);
    }

-- an answer that names no rows
pub record NamesNone (a : Answer) : Type 0 where
  pub none : (ps : List Pair) → rows_named (Ok a) ps ≡ []
  pub named : (m : ℕ) → Named (Ok a) m 0

pub none_written : NamesNone (Written 0 0)
none_written = record { none = λ ps. refl; named = λ m. (refl, inl (refl, refl)) }

pub only_marked : NamesNone Marked
only_marked = record { none = λ ps. refl; named = λ m. refl }

-- nothing written, and nothing closed
pub wrote_nothing : (b : Beginning) (h : History) (s t : State) (c : Call) (a : Answer) → NamesNone a
    → closes c.asked ≡ false → t.pairs.rows ≡ s.pairs.rows → t.selic ≡ s.selic → t.control ≡ s.control
    → Counted b h s → Counted b (event c (Ok a) t ∷ h) t
unfolding written_since
wrote_nothing b h s t c a names open_still same selic control kept =
    let e : Event = event c (Ok a) t in
    let w : e.wrote ≡ [] = names.none t.pairs.rows in
    record {
      rows = same ∙ kept.rows ∙ sym (append-nil (written_since h)) ∙ ap (λ l. written_since h ++ l) (sym w) ∙ sym (ap (λ z. cond z [] (written_since h ++ e.wrote)) open_still);
      answered = (subst (λ n. Named (Ok a) (length (written_since h)) n) (sym (ap length w)) (names.named (length (written_since h))), kept.answered);
      issued = rw (selic, control) (issued_none b h e s.selic s.control w kept.issued);
    }

-- a closing
pub closed : (b : Beginning) (h : History) (s t : State) (c : Call)
    → closes c.asked ≡ true → t.pairs.rows ≡ [] → t.selic ≡ s.selic → t.control ≡ s.control
    → Counted b h s → Counted b (event c (Ok (Written 0 0)) t ∷ h) t
unfolding written_since
closed b h s t c closing none selic control kept =
    let e : Event = event c (Ok (Written 0 0)) t in
    record {
      rows = none ∙ sym (ap (λ z. cond z [] (written_since h ++ e.wrote)) closing);
      answered = (none_written.named (length (written_since h)), kept.answered);
      issued = rw (selic, control) (issued_none b h e s.selic s.control refl kept.issued);
    }

-- a refusal
pub refused : (b : Beginning) (h : History) (s : State) (c : Call) (f : Refusal) → Counted b h s → Counted b (event c (Err f) s ∷ h) s
unfolding written_since
refused b h s c f kept = record { rows = kept.rows; answered = (refl, kept.answered); issued = issued_none b h (event c (Err f) s) s.selic s.control refl kept.issued }

-- a refusal leaves all that is said of pairs
pub refused_pairs : (b : Beginning) (h : History) (s : State) (c : Call) (f : Refusal) → Pairs b h s → Pairs b (event c (Err f) s ∷ h) s
refused_pairs b h s c f p =
    let k = refused b h s c f (counted_of b h s p) in
    record {
      confirmed = p.confirmed;
      unconfirmed = p.unconfirmed;
      of_chains = p.of_chains;
      rows = k.rows;
      answered = k.answered;
      selic_numbers = k.issued.selic_numbers;
      control_numbers = k.issued.control_numbers;
    }
