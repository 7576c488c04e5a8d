-- What is said of pairs, kept by an event: it is enough to know which chains are whole and confirmed before and after.
use Rattle.keyed.proofs.Words.{true, false, true≢false, List, [], ◌∷◌, ◌++◌, ◌⊎◌, inl, inr, ◌≡◌, refl, sym, ap, subst, ◌∙◌, ℕ, ◌<◌, eqb, cases_Bool, and_parts, and_from, eqb-true, eq-eqb}
use Rattle.law.proofs.Subject.{Pair, Buyer, those, is_some, Each, In, find, entries_held, both_confirmed, number, Paired, History, Beginning, State, trade, Link, Linked, Chains, Chain, final, AllConfirmed, pairs_of, begun_for, Pairs}
use mathlib.Core.Bool.{false≢true}
use Rattle.keyed.proofs.Lists.{each_map, each_append, each_in, from_in, those_none, none_those}
use Rattle.law.proofs.Histories.{naming, AllName, pairs_new, pairs_kept, Counted}

-- ── A chain is known by its first trade ──

link_same : (s : State) → Chains s → (n m k : ℕ) → Link s.intermediations.rows n m → Link s.intermediations.rows n k → m ≡ k
link_same s c n m k l j =
    let same : l.by ≡ j.by = c.alone Buyer l.by j.by l.stands j.stands (subst (λ i. 0 < i) (sym l.bought) l.bought_there) (l.bought ∙ sym j.bought) in
    sym l.sold ∙ ap (λ x. x.sold) same ∙ j.sold

others_same : (s : State) → Chains s → (n : ℕ) (os ps : List ℕ) → Linked s.intermediations.rows (n ∷ os) → Linked s.intermediations.rows (n ∷ ps)
    → ((k : ℕ) → Link s.intermediations.rows (final n os) k → ⊥) → ((k : ℕ) → Link s.intermediations.rows (final n ps) k → ⊥) → os ≡ ps
others_same s c n [] [] l j f g = refl
others_same s c n [] (k ∷ ps) l j f g = absurd (f k j.0)
others_same s c n (m ∷ os) [] l j f g = absurd (g m l.0)
others_same s c n (m ∷ os) (k ∷ ps) l j f g =
    let same : k ≡ m = link_same s c n k m j.0 l.0 in
    ap (λ r. m ∷ r) (others_same s c m os ps l.1 (subst (λ i. Linked s.intermediations.rows (i ∷ ps)) same j.1) f
    (subst (λ i. (q : ℕ) → Link s.intermediations.rows (final i ps) q → ⊥) same g)) ∙ ap (λ i. i ∷ ps) (sym same)

pub chain_same : (s : State) → Chains s → (n : ℕ) (os ps : List ℕ) → Chain s n os → Chain s n ps → os ≡ ps
chain_same s c n os ps x y = others_same s c n os ps x.linked y.linked x.none_behind y.none_behind

-- ── Chains whole and confirmed ──

pub record Full (s : State) (first : ℕ) (others : List ℕ) : Type 0 where
  pub chain : Chain s first others
  pub confirmed : AllConfirmed s (first ∷ others)

-- the pair is of such a chain
pub record OfFull (s : State) (p : Pair) : Type 0 where
  pub others : List ℕ
  pub full : Full s p.first others
  pub ends : final p.first others ≡ p.last

all_or_not : (s : State) (ns : List ℕ) → AllConfirmed s ns ⊎ (AllConfirmed s ns → ⊥)
all_or_not s [] = inl tt
all_or_not s (n ∷ ns) =
    elim (cases_Bool (both_confirmed (trade s n))) [
      | inl t ↦ elim (all_or_not s ns) [
        | inl a ↦ inl (t, a)
        | inr a ↦ inr (λ x. a x.1)
      ]
      | inr t ↦ inr (λ x. true≢false (sym x.0 ∙ t))
    ]

names_itself : (p : Pair) (first last : ℕ) → p.first ≡ first → p.last ≡ last → naming first last p ≡ true
names_itself p first last e f = and_from (eqb p.first first) (eqb p.last last) (eq-eqb p.first first e) (eq-eqb p.last last f)

-- every pair is of a chain that is whole and confirmed
pub pairs_full : (b : Beginning) (h : History) (s : State) → Pairs b h s → Each (OfFull s) s.pairs.rows
pairs_full b h s law = from_in (OfFull s) s.pairs.rows go
  where
    go : (p : Pair) → In p s.pairs.rows → OfFull s p
    go p i =
        let of = each_in (λ p. (others : List ℕ) × Chain s p.first others × (final p.first others ≡ p.last)) p s.pairs.rows law.of_chains i in
        elim (all_or_not s (p.first ∷ of.0)) [
          | inl all ↦ record { others = of.0; full = record { chain = of.1; confirmed = all }; ends = of.2 }
          | inr not-all ↦
              let none = none_those (naming p.first (final p.first of.0)) s.pairs.rows (law.unconfirmed p.first of.0 of.1 not-all) in
              absurd (true≢false (sym (names_itself p p.first (final p.first of.0) refl (sym of.2))
              ∙ each_in (λ q. naming p.first (final p.first of.0) q ≡ false) p s.pairs.rows none i))
        ]

-- where all pairs are, a chain that is not confirmed has none
pub unfull_none : (s : State) → Chains s → (ps : List Pair) → Each (OfFull s) ps → (first : ℕ) (others : List ℕ) → Chain s first others
    → (AllConfirmed s (first ∷ others) → ⊥) → those (naming first (final first others)) ps ≡ []
unfull_none s c ps all first others chain not-all =
    those_none (naming first (final first others)) ps (each_map (OfFull s) (λ p. naming first (final first others) p ≡ false) go ps all)
  where
    go : (p : Pair) → OfFull s p → naming first (final first others) p ≡ false
    go p of =
        elim (cases_Bool (naming first (final first others) p)) [
          | inl t ↦
              let both = and_parts (eqb p.first first) (eqb p.last (final first others)) t in
              let same : p.first ≡ first = eqb-true p.first first both.0 in
              let full : Full s first of.others = subst (λ n. Full s n of.others) same of.full in
              let eq : of.others ≡ others = chain_same s c first of.others others full.chain chain in
              absurd (not-all (subst (λ os. AllConfirmed s (first ∷ os)) eq full.confirmed))
          | inr f ↦ f
        ]

-- ── From before to after ──

-- what the pairs of a chain are said of is the same
pub record EndsSame (s t : State) (first last : ℕ) : Type 0 where
  pub terms : (trade t first).terms ≡ (trade s first).terms
  pub sold : entries_held (trade t first).seller ≡ entries_held (trade s first).seller
  pub bought : entries_held (trade t last).buyer ≡ entries_held (trade s last).buyer

-- what was whole and confirmed is so still
abbrev pub StillFull : State → State → Type 0
StillFull s t = (first : ℕ) (others : List ℕ) → Full s first others → Full t first others × EndsSame s t first (final first others)

still_of : (s t : State) → StillFull s t → (ps : List Pair) → Each (OfFull s) ps → Each (OfFull t) ps
still_of s t stays ps all =
    each_map (OfFull s) (OfFull t) (λ p of. record { others = of.others; full = (stays p.first of.others of.full).0; ends = of.ends }) ps all

still_paired : (b : Beginning) (h : History) (s t : State) → Pairs b h s → (first : ℕ) (others : List ℕ) → Full s first others → EndsSame s t first (final first others)
    → Paired (begun_for b (trade t first).terms) (entries_held (trade t first).seller) (entries_held (trade t (final first others)).buyer) (pairs_of s first (final first others))
still_paired b h s t law first others full same =
    rw (same.terms, same.sold, same.bought) (law.confirmed first others full.chain full.confirmed)

as_chains : (t : State) (ps : List Pair) → Each (OfFull t) ps → Each (λ p. (others : List ℕ) × Chain t p.first others × (final p.first others ≡ p.last)) ps
as_chains t ps all = each_map (OfFull t) (λ p. (others : List ℕ) × Chain t p.first others × (final p.first others ≡ p.last)) (λ p of. (of.others, of.full.chain, of.ends)) ps all

-- no chain was completed
pub pairs_unchanged : (b : Beginning) (h k : History) (s t : State) → Chains t → Pairs b h s → Counted b k t
    → t.pairs.rows ≡ s.pairs.rows → StillFull s t → ((first : ℕ) (others : List ℕ) → Full t first others → Full s first others)
    → Pairs b k t
pairs_unchanged b h k s t c law counted same stays back =
    let all : Each (OfFull t) t.pairs.rows = subst (Each (OfFull t)) (sym same) (still_of s t stays s.pairs.rows (pairs_full b h s law)) in
    record {
      confirmed = λ first others chain conf.
          let was = back first others (record { chain = chain; confirmed = conf }) in
          subst (λ ps. Paired (begun_for b (trade t first).terms) (entries_held (trade t first).seller) (entries_held (trade t (final first others)).buyer) (those (naming first (final first others)) ps))
          (sym same) (still_paired b h s t law first others was (stays first others was).1);
      unconfirmed = λ first others chain not-all. unfull_none t c t.pairs.rows all first others chain not-all;
      of_chains = as_chains t t.pairs.rows all;
      rows = counted.rows;
      answered = counted.answered;
      selic_numbers = counted.issued.selic_numbers;
      control_numbers = counted.issued.control_numbers;
    }

-- a chain that the event completed, and the pairs that it wrote for it
pub record Fresh (b : Beginning) (s t : State) (new : List Pair) (first : ℕ) (others : List ℕ) : Type 0 where
  pub full : Full t first others
  pub before : Full s first others → ⊥
  pub all_name : AllName first (final first others) new
  pub paired : Paired (begun_for b (trade t first).terms) (entries_held (trade t first).seller) (entries_held (trade t (final first others)).buyer) new

fresh_of : (t : State) (first : ℕ) (others : List ℕ) → Full t first others → (new : List Pair) → AllName first (final first others) new → Each (OfFull t) new
fresh_of t first others full new names =
    each_map (λ p. (p.first ≡ first) × (p.last ≡ final first others)) (OfFull t)
    (λ p e. record { others = others; full = subst (λ n. Full t n others) (sym e.0) full; ends = ap (λ n. final n others) e.0 ∙ sym e.1 }) new names

-- no pair of before is of the chain that was completed
none_before : (s t : State) → Chains t → StillFull s t → (first : ℕ) (others : List ℕ) → Full t first others → (Full s first others → ⊥)
    → (ps : List Pair) → Each (OfFull s) ps → those (naming first (final first others)) ps ≡ []
none_before s t c stays first others full not_before ps all =
    those_none (naming first (final first others)) ps (each_map (OfFull s) (λ p. naming first (final first others) p ≡ false) go ps all)
  where
    go : (p : Pair) → OfFull s p → naming first (final first others) p ≡ false
    go p of =
        elim (cases_Bool (naming first (final first others) p)) [
          | inl t-names ↦
              let both = and_parts (eqb p.first first) (eqb p.last (final first others)) t-names in
              let same : p.first ≡ first = eqb-true p.first first both.0 in
              let was : Full s first of.others = subst (λ n. Full s n of.others) same of.full in
              let eq : of.others ≡ others = chain_same t c first of.others others (stays first of.others was).0.chain full.chain in
              absurd (not_before (subst (Full s first) eq was))
          | inr f ↦ f
        ]

-- one chain was completed
pub pairs_written : (b : Beginning) (h k : History) (s t : State) (new : List Pair) (first : ℕ) (others : List ℕ) → Chains t → Pairs b h s → Counted b k t
    → t.pairs.rows ≡ s.pairs.rows ++ new → StillFull s t → Fresh b s t new first others
    → ((f : ℕ) (os : List ℕ) → Full t f os → Full s f os ⊎ ((f ≡ first) × (os ≡ others)))
    → Pairs b k t
pairs_written b h k s t new first others c law counted grown stays fresh back =
    record {
      confirmed = λ f os chain conf. confirmed f os (record { chain = chain; confirmed = conf }) (back f os (record { chain = chain; confirmed = conf }));
      unconfirmed = λ f os chain not-all. unfull_none t c t.pairs.rows all f os chain not-all;
      of_chains = as_chains t t.pairs.rows all;
      rows = counted.rows;
      answered = counted.answered;
      selic_numbers = counted.issued.selic_numbers;
      control_numbers = counted.issued.control_numbers;
    }
  where
    olds : Each (OfFull s) s.pairs.rows
    olds = pairs_full b h s law

    all : Each (OfFull t) t.pairs.rows
    all = subst (Each (OfFull t)) (sym grown)
        (each_append (OfFull t) s.pairs.rows new (still_of s t stays s.pairs.rows olds) (fresh_of t first others fresh.full new fresh.all_name))

    confirmed : (f : ℕ) (os : List ℕ) → Full t f os → Full s f os ⊎ ((f ≡ first) × (os ≡ others))
        → Paired (begun_for b (trade t f).terms) (entries_held (trade t f).seller) (entries_held (trade t (final f os)).buyer) (pairs_of t f (final f os))
    confirmed f os full (inl was) =
        subst (λ ps. Paired (begun_for b (trade t f).terms) (entries_held (trade t f).seller) (entries_held (trade t (final f os)).buyer) ps)
        (sym (ap (those (naming f (final f os))) grown ∙ pairs_kept f (final f os) first (final first others) s.pairs.rows new differ fresh.all_name))
        (still_paired b h s t law f os was (stays f os was).1)
      where
        differ : (first ≡ f) × (final first others ≡ final f os) → ⊥
        differ e =
            let there : Full t f others = subst (λ n. Full t n others) e.0 fresh.full in
            let eq : os ≡ others = chain_same t c f os others full.chain there.chain in
            fresh.before (subst (λ n. Full s n others) (sym e.0) (subst (Full s f) eq was))
    confirmed f os full (inr e) =
        rw (e.0, e.1) (subst (λ ps. Paired (begun_for b (trade t first).terms) (entries_held (trade t first).seller) (entries_held (trade t (final first others)).buyer) ps)
        (sym (ap (those (naming first (final first others))) grown
        ∙ pairs_new first (final first others) s.pairs.rows new (none_before s t c stays first others fresh.full fresh.before s.pairs.rows olds) fresh.all_name))
        fresh.paired)

-- all is cleared
pub pairs_cleared : (b : Beginning) (k : History) (t : State) → t.pairs.rows ≡ [] → t.trades.rows ≡ [] → Counted b k t → Pairs b k t
pairs_cleared b k t none no-trades counted = record {
  confirmed = λ f os chain conf. absurd (false≢true (ap (λ ts. is_some (find number f ts)) (sym no-trades) ∙ chain.stands));
  unconfirmed = λ f os chain conf. ap (those (naming f (final f os))) none;
  of_chains = subst (Each (λ p. (others : List ℕ) × Chain t p.first others × (final p.first others ≡ p.last))) (sym none) tt;
  rows = counted.rows;
  answered = counted.answered;
  selic_numbers = counted.issued.selic_numbers;
  control_numbers = counted.issued.control_numbers;
}
