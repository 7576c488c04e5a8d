-- The pairs of two ends: what the entries taken in order come to.
use Rattle.std.proofs.lemmas.Grind.{common_steps}
use Rattle.keyed.proofs.Words.{Bool, cond, List, [], ◌∷◌, ◌++◌, map, append_assoc, ◌⊎◌, inl, inr, ◌≡◌, refl, sym, ap, ◌∙◌, ℕ, zero, suc, ◌+◌, ◌-◌, ◌<◌, ◌≤◌, arith, eqb, length, take, drop, take-append-drop}
use Rattle.std.proofs.Common.{min}
use Rattle.fields.specs.declared.trade.Entry.{Entry}
use Rattle.fields.specs.declared.trade.Pair.{Pair}
use Rattle.keyed.proofs.Lists.{sum_those}
use Rattle.keyed.specs.Lists.{those, sum}
use Rattle.keyed.specs.Members.{Each}
use Rattle.rows.specs.Allocations.{total}
use Rattle.chains.specs.Paired.{Taken, Paired}
use Rattle.chains.specs.Pairing.{less, matched, matches, given_numbers}
use Rattle.chains.specs.declared.pairing.Match.{Match}

abbrev pub Positive : List Entry → Type 0
Positive es = Each (λ e. 0 < e.quantity) es

-- ends of positive entries that add up to the same
abbrev pub Level : List Entry → List Entry → Type 0
Level sold bought = Positive sold × Positive bought × (total sold ≡ total bought)

-- ── One step ──

-- what counts of an entry, by its account
abbrev counted : (ℕ → Bool) → Entry → ℕ
counted p e = cond (p e.account) e.quantity 0

less_sum : (p : ℕ → Bool) (e : Entry) (es : List Entry) (n : ℕ) → n ≤ e.quantity
    → sum (counted p) (less n e es) + cond (p e.account) n 0 ≡ sum (counted p) (e ∷ es)
less_sum p e es n h = grind (arith, common_steps)

-- one of the two foremost entries is used up
one_used : (d b : Entry) (sold bought : List Entry) (n : ℕ) → n ≡ min d.quantity b.quantity
    → length (less n d sold) + length (less n b bought) < length (d ∷ sold) + length (b ∷ bought)
one_used d b sold bought n h = grind (arith, common_steps)

level_on : (d b : Entry) (sold bought : List Entry) (n : ℕ) → n ≡ min d.quantity b.quantity
    → Level (d ∷ sold) (b ∷ bought) → Level (less n d sold) (less n b bought)
level_on d b sold bought n h l = grind (arith, common_steps)

-- ── What is taken ──

few : (ps : List Pair) (sold bought : List Entry) → Taken ps sold bought → length ps ≤ length sold + length bought - 1
few [] sold bought t = omega arith
few (p ∷ ps) [] bought t = absurd t
few (p ∷ ps) (s ∷ sold) [] t = absurd t
few (p ∷ ps) (s ∷ sold) (e ∷ bought) t =
    omega (arith, few ps (less p.quantity s sold) (less p.quantity e bought) t.3, one_used s e sold bought p.quantity t.2)

-- fewer pairs than entries
pub taken_fewer : (ps : List Pair) (sold bought : List Entry) → 0 < length sold → Taken ps sold bought → length ps < length sold + length bought
taken_fewer ps sold bought h t = omega (arith, few ps sold bought t)

pub taken_some : (ps : List Pair) (sold bought : List Entry) → 0 < length sold → 0 < length bought → Taken ps sold bought → 0 < length ps
taken_some ps sold bought d b t = grind (arith, common_steps)

nothing_left : (es : List Entry) → Positive es → total es ≡ 0 → es ≡ []
nothing_left [] p h = refl
nothing_left (e ∷ es) p h = absurd (omega (arith, p.0))

-- level ends are both used up together
both_used : (sold bought : List Entry) → Level sold bought → (sold ≡ []) ⊎ (bought ≡ []) → (sold ≡ []) × (bought ≡ [])
both_used sold bought l (inl e) = (e, nothing_left bought l.1 (sym l.2 ∙ ap total e))
both_used sold bought l (inr e) = (nothing_left sold l.0 (l.2 ∙ ap total e), e)

shared : (f : ℕ → Bool) (ps : List Pair) (sold bought : List Entry) → Level sold bought → Taken ps sold bought
    → (sum (λ p. cond (f p.seller) p.quantity 0) ps ≡ sum (counted f) sold) × (sum (λ p. cond (f p.buyer) p.quantity 0) ps ≡ sum (counted f) bought)
shared f [] sold bought l t = let u = both_used sold bought l t in (sym (ap (sum (counted f)) u.0), sym (ap (sum (counted f)) u.1))
shared f (p ∷ ps) [] bought l t = absurd t
shared f (p ∷ ps) (s ∷ sold) [] l t = absurd t
shared f (p ∷ ps) (s ∷ sold) (e ∷ bought) l t =
    let rest = shared f ps (less p.quantity s sold) (less p.quantity e bought) (level_on s e sold bought p.quantity t.2 l) t.3 in (
      omega (arith, rest.0, less_sum f s sold p.quantity (omega (arith, t.2)), ap (λ a. cond (f a) p.quantity 0) t.0),
      omega (arith, rest.1, less_sum f e bought p.quantity (omega (arith, t.2)), ap (λ a. cond (f a) p.quantity 0) t.1),
    )

-- each account sells, and buys, what its entries say
pub taken_sellers : (ps : List Pair) (sold bought : List Entry) → Level sold bought → Taken ps sold bought
    → (code : ℕ) → sum (λ p. p.quantity) (those (λ p. eqb p.seller code) ps) ≡ total (those (λ e. eqb e.account code) sold)
taken_sellers ps sold bought l t code =
    sum_those (λ p. p.quantity) (λ p. eqb p.seller code) ps ∙ (shared (λ a. eqb a code) ps sold bought l t).0
    ∙ sym (sum_those (λ e. e.quantity) (λ e. eqb e.account code) sold)

pub taken_buyers : (ps : List Pair) (sold bought : List Entry) → Level sold bought → Taken ps sold bought
    → (code : ℕ) → sum (λ p. p.quantity) (those (λ p. eqb p.buyer code) ps) ≡ total (those (λ e. eqb e.account code) bought)
taken_buyers ps sold bought l t code =
    sum_those (λ p. p.quantity) (λ p. eqb p.buyer code) ps ∙ (shared (λ a. eqb a code) ps sold bought l t).1
    ∙ sym (sum_those (λ e. e.quantity) (λ e. eqb e.account code) bought)

-- ── The pairs of the model ──

taken_by : (most first last : ℕ) (sold bought : List Entry) (ns : List ℕ) → length sold + length bought ≤ most → length (matched most sold bought) ≤ length ns
    → Taken (given_numbers first last (matched most sold bought) ns) sold bought
unfolding matched
taken_by zero first last [] bought ns h enough = inl refl
taken_by zero first last (s ∷ sold) bought ns h enough = absurd (omega arith)
taken_by (suc most) first last [] bought ns h enough = inl refl
taken_by (suc most) first last (s ∷ sold) [] ns h enough = inr refl
taken_by (suc most) first last (s ∷ sold) (b ∷ bought) [] h enough = absurd (omega arith)
taken_by (suc most) first last (s ∷ sold) (b ∷ bought) (n ∷ ns) h enough =
    let q : ℕ = min s.quantity b.quantity in
    (refl, refl, refl, taken_by most first last (less q s sold) (less q b bought) ns (omega (arith, one_used s b sold bought q refl)) (omega arith))

pub pairs_taken : (first last : ℕ) (sold bought : List Entry) (ns : List ℕ) → length (matches sold bought) ≤ length ns
    → Taken (given_numbers first last (matches sold bought) ns) sold bought
pairs_taken first last sold bought ns enough = taken_by (length sold + length bought) first last sold bought ns (omega arith) enough

pub numbers_given : (first last : ℕ) (ms : List Match) (ns : List ℕ) → length ms ≤ length ns → map (λ p. p.number) (given_numbers first last ms ns) ≡ take (length ms) ns
numbers_given first last [] ns h = refl
numbers_given first last (m ∷ ms) [] h = absurd (omega arith)
numbers_given first last (m ∷ ms) (n ∷ ns) h = ap (λ l. n ∷ l) (numbers_given first last ms ns (omega arith))

pub length_given : (first last : ℕ) (ms : List Match) (ns : List ℕ) → length ms ≤ length ns → length (given_numbers first last ms ns) ≡ length ms
length_given first last [] ns h = refl
length_given first last (m ∷ ms) [] h = absurd (omega arith)
length_given first last (m ∷ ms) (n ∷ ns) h = ap suc (length_given first last ms ns (omega arith))

pub all_name : (first last : ℕ) (ms : List Match) (ns : List ℕ) → Each (λ p. (p.first ≡ first) × (p.last ≡ last)) (given_numbers first last ms ns)
all_name first last [] ns = tt
all_name first last (m ∷ ms) [] = tt
all_name first last (m ∷ ms) (n ∷ ns) = ((refl, refl), all_name first last ms ns)

-- ── All of it ──

pub pairs_paired : (begun before ns : List ℕ) (first last : ℕ) (sold bought : List Entry)
    → begun ≡ before ++ ns → Level sold bought → 0 < length sold → 0 < length bought → length (matches sold bought) ≤ length ns
    → Paired begun sold bought (given_numbers first last (matches sold bought) ns)
pairs_paired begun before ns first last sold bought e l d b enough =
    let ps : List Pair = given_numbers first last (matches sold bought) ns in
    let n : ℕ = length (matches sold bought) in
    let t : Taken ps sold bought = pairs_taken first last sold bought ns enough in
    record {
      some = taken_some ps sold bought d b t;
      taken = t;
      numbered = record {
        before = before;
        behind = drop n ns;
        split = e ∙ ap (λ l. before ++ l) (sym (take-append-drop n ns)) ∙ sym (append_assoc before (take n ns) (drop n ns))
            ∙ ap (λ l. before ++ l ++ drop n ns) (sym (numbers_given first last (matches sold bought) ns enough));
      };
      sellers = taken_sellers ps sold bought l t;
      buyers = taken_buyers ps sold bought l t;
      fewer = taken_fewer ps sold bought d t;
    }
