-- A request that passes the tests of its fields, written, reads back as itself.
use Rattle.std.proofs.Common.{◌≡◌, ℕ, ◌+◌, ◌^◌, ◌<◌, ◌≤◌, Bool, true, false, cond, eqb, leb, List, [], ◌∷◌, length, take, Some, Ok, decimal, refl, ap, ◌∙◌, subst, arith, length-take-le}
use Rattle.std.proofs.lemmas.Bool.{leb-true, and_parts}
use Rattle.fields.specs.declared.range.Range.{Range}
use Rattle.fields.specs.Ranges.{is_in_range, minutes, numbers, numbers_or_none, participants, accounts, quantities, days, flags, entry_counts}
use Rattle.fields.specs.declared.trade.Entry.{Entry}
use Rattle.fields.specs.declared.trade.Kind.{Kind}
use Rattle.fields.specs.declared.trade.Kind.TheVariants.{Selic, Deposited, Registered}
use Rattle.fields.specs.declared.trade.Side.{Side}
use Rattle.fields.specs.declared.trade.Side.TheVariants.{Buyer, Seller}
use Rattle.text.specs.Fields.{number}
use Rattle.writing.specs.declared.piece.Piece.{Piece}
use Rattle.writing.specs.Written.{line_of}
use Rattle.fields.specs.Letters.{kind_letter, side_letter}
use Rattle.requests.specs.Tests.{tested, entry_tests, fields_pass, field_tests, sold_range, side_call_tests, intermediation_call_tests}
use Rattle.requests.proofs.Tested.{AllIn, all_in}
use Rattle.requests.specs.declared.request.Request.{Request}
use Rattle.requests.specs.declared.request.Request.TheVariants.{Capture, Cancel, Include, Remove, Confirm, Intermediate, ConfirmIntermediation, ExcludeIntermediation, Close}
use Rattle.requests.specs.declared.request.NewTrade.{NewTrade}
use Rattle.requests.specs.declared.request.Cancellation.{Cancellation}
use Rattle.requests.specs.declared.request.Inclusion.{Inclusion}
use Rattle.requests.specs.declared.request.SideCall.{SideCall}
use Rattle.requests.specs.declared.request.NewIntermediation.{NewIntermediation}
use Rattle.requests.specs.declared.request.IntermediationCall.{IntermediationCall}
use Rattle.requests.specs.declared.request.Closing.{Closing}
use Rattle.text.specs.Groups.{entry_group, values}
use Rattle.text.specs.Words.{kind, side}
use Rattle.request_text.specs.Lines.{request, of_fields, side_call_line, intermediation_call_line}
use Rattle.request_writer.specs.RoundTrip.{ReadsBack}
use Rattle.request_writer.specs.Canonical.{pieces_of, request_line, tidy, flag, entry_pieces, side_call_pieces, intermediation_call_pieces}
use Rattle.request_writer.proofs.Plain.{NoComma, Plain, texts, no_comma_decimal, number_back, fields_line}

-- a number of a range that 64 bits hold: no comma in its figures, and it reads back
module _ (r : Range) (n : ℕ) (big : r.most < 2 ^ 64) (h : is_in_range r n ≡ true) where
  plain : NoComma (decimal n)
  plain = no_comma_decimal n (let le : n ≤ r.most = leb-true n r.most (and_parts (leb r.least n) (leb n r.most) h).1 in omega arith)

  back : number r (decimal n) ≡ Some n
  back = number_back r n big h

kind_plain : (k : Kind) → kind_letter k ≡ 44 → ⊥
kind_plain Selic e = omega arith
kind_plain Deposited e = omega arith
kind_plain Registered e = omega arith

kind_back : (k : Kind) → kind (kind_letter k ∷ []) ≡ Some k
kind_back Selic = refl
kind_back Deposited = refl
kind_back Registered = refl

side_plain : (s : Side) → side_letter s ≡ 44 → ⊥
side_plain Buyer e = omega arith
side_plain Seller e = omega arith

side_back : (s : Side) → side (side_letter s ∷ []) ≡ Some s
side_back Buyer = refl
side_back Seller = refl

flag_in : (b : Bool) → is_in_range flags (flag b) ≡ true
flag_in true = refl
flag_in false = refl

flag_is : (b : Bool) → eqb (flag b) 1 ≡ b
flag_is true = refl
flag_is false = refl

sold_big : (b : ℕ) → (sold_range b).most < 2 ^ 64
sold_big b =
    let P : Bool → Type 0 = λ t. (cond t numbers numbers_or_none).most < 2 ^ 64 in
    elim (eqb b 0) as P [ true ↦ omega arith | false ↦ omega arith ]

-- a line of these pieces is read by what reads their texts
module _ (letter : ℕ) (ps : List Piece) (no : letter ≡ 44 → ⊥) (v : Request) where
  from_texts : Plain ps → of_fields ((letter ∷ []) ∷ texts ps) ≡ Ok v → request (line_of letter ps) ≡ Ok v
  from_texts h e = ap of_fields (fields_line letter ps no h) ∙ e

capture_back : (c : NewTrade) → fields_pass (Capture c) ≡ Ok tt → request (request_line (Capture c)) ≡ Ok (Capture c)
capture_back c h =
    let t = c.terms in
    let p2 = all_in (field_tests (Capture c)) h in let p3 = p2.1 in let p5 = p3.1 in let p6 = p5.1 in let p7 = p6.1 in
    let p8 = p7.1 in let p9 = p8.1 in let p10 = p9.1 in let p11 = p10.1 in
    from_texts 67 (pieces_of (Capture c)) (λ e. omega arith) (Capture c) (
      plain minutes c.minute (omega arith) p2.0,
      (
        plain numbers t.number (omega arith) p3.0,
        (
          (kind_plain t.kind, tt),
          (
            plain numbers t.asset (omega arith) p5.0,
            (
              plain quantities t.quantity (omega arith) p6.0,
              (
                plain days t.settlement (omega arith) p7.0,
                (
                  plain participants t.buyer.participant (omega arith) p8.0,
                  (
                    plain participants t.buyer.offeror (omega arith) p9.0,
                    (
                      plain participants t.seller.participant (omega arith) p10.0,
                      (plain participants t.seller.offeror (omega arith) p11.0, tt),
                    ),
                  ),
                ),
              ),
            ),
          ),
        ),
      ),
    )
    (rw (
      back minutes c.minute (omega arith) p2.0,
      back numbers t.number (omega arith) p3.0,
      kind_back t.kind,
      back numbers t.asset (omega arith) p5.0,
      back quantities t.quantity (omega arith) p6.0,
      back days t.settlement (omega arith) p7.0,
      back participants t.buyer.participant (omega arith) p8.0,
      back participants t.buyer.offeror (omega arith) p9.0,
      back participants t.seller.participant (omega arith) p10.0,
      back participants t.seller.offeror (omega arith) p11.0,
    ))

cancel_back : (c : Cancellation) → fields_pass (Cancel c) ≡ Ok tt → request (request_line (Cancel c)) ≡ Ok (Cancel c)
cancel_back c h =
    let p = all_in (field_tests (Cancel c)) h in
    let hm = p.0 in let ht = p.1.0 in
    from_texts 88 (pieces_of (Cancel c)) (λ e. omega arith) (Cancel c)
    (plain minutes c.minute (omega arith) hm, (plain numbers c.trade (omega arith) ht, tt))
    (rw (back minutes c.minute (omega arith) hm, back numbers c.trade (omega arith) ht))

-- the entries, from place k on
entries_plain : (es : List Entry) (k : ℕ) → AllIn (entry_tests k es) → Plain (entry_pieces es)
entries_plain [] k h = tt
entries_plain (e ∷ es) k h =
    (plain accounts e.account (omega arith) h.0, (plain quantities e.quantity (omega arith) h.1.0, (plain numbers_or_none e.client (omega arith) h.1.1.0, entries_plain es (k + 3) h.1.1.1)))

entries_back : (es : List Entry) (k : ℕ) → AllIn (entry_tests k es) → values entry_group (length es) k (texts (entry_pieces es)) ≡ Ok (es, [])
entries_back [] k h = refl
entries_back (e ∷ es) k h =
    rw (back accounts e.account (omega arith) h.0, back quantities e.quantity (omega arith) h.1.0, back numbers_or_none e.client (omega arith) h.1.1.0, entries_back es (k + 3) h.1.1.1)

include_back : (c : Inclusion) → length c.entries ≡ 16 → fields_pass (Include c) ≡ Ok tt → request (request_line (Include c)) ≡ Ok (tidy (Include c))
include_back c sixteen h =
    let es = take c.count c.entries in
    let p2 = all_in (field_tests (Include c)) h in let p3 = p2.1 in let p4 = p3.1 in let p7 = p4.1 in let p8 = p7.1 in
    let le : c.count ≤ 16 = leb-true c.count 16 (and_parts (leb 1 c.count) (leb c.count 16) p7.0).1 in
    let n : length es ≡ c.count = length-take-le c.count c.entries (omega arith) in
    let read : values entry_group c.count 8 (texts (entry_pieces es)) ≡ Ok (es, []) = subst (λ k. values entry_group k 8 (texts (entry_pieces es)) ≡ Ok (es, [])) n (entries_back es 8 p8) in
    from_texts 73 (pieces_of (Include c)) (λ e. omega arith) (tidy (Include c)) (
      plain minutes c.minute (omega arith) p2.0,
      (
        plain participants c.participant (omega arith) p3.0,
        (
          plain numbers c.trade (omega arith) p4.0,
          ((side_plain c.side, tt), (plain flags (flag c.now) (omega arith) (flag_in c.now), (plain entry_counts c.count (omega arith) p7.0, entries_plain es 8 p8))),
        ),
      ),
    )
    (rw (
      back minutes c.minute (omega arith) p2.0,
      back participants c.participant (omega arith) p3.0,
      back numbers c.trade (omega arith) p4.0,
      side_back c.side,
      back flags (flag c.now) (omega arith) (flag_in c.now),
      back entry_counts c.count (omega arith) p7.0,
      read,
      flag_is c.now,
    ))

module _ (c : SideCall) (h : tested (side_call_tests c) ≡ Ok tt) where
  abbrev side_parts : AllIn (side_call_tests c)
  side_parts = all_in (side_call_tests c) h

  side_call_plain : Plain (side_call_pieces c)
  side_call_plain =
      (plain minutes c.minute (omega arith) side_parts.0, (plain participants c.participant (omega arith) side_parts.1.0, (plain numbers c.trade (omega arith) side_parts.1.1.0, ((side_plain c.side, tt), tt))))

  side_call_back : side_call_line (texts (side_call_pieces c)) ≡ Ok c
  side_call_back =
      rw (back minutes c.minute (omega arith) side_parts.0, back participants c.participant (omega arith) side_parts.1.0, back numbers c.trade (omega arith) side_parts.1.1.0, side_back c.side)

intermediate_back : (c : NewIntermediation) → fields_pass (Intermediate c) ≡ Ok tt → request (request_line (Intermediate c)) ≡ Ok (Intermediate c)
intermediate_back c h =
    let i = c.intermediation in
    let p2 = all_in (field_tests (Intermediate c)) h in let p3 = p2.1 in let p4 = p3.1 in let p5 = p4.1 in let p6 = p5.1 in let p7 = p6.1 in
    let big : (sold_range i.bought).most < 2 ^ 64 = sold_big i.bought in
    from_texts 74 (pieces_of (Intermediate c)) (λ e. omega arith) (Intermediate c) (
      plain minutes c.minute (omega arith) p2.0,
      (
        plain participants i.participant (omega arith) p3.0,
        (
          plain numbers i.id (omega arith) p4.0,
          (
            plain accounts i.account (omega arith) p5.0,
            (plain numbers_or_none i.bought (omega arith) p6.0, (plain (sold_range i.bought) i.sold big p7.0, (plain flags (flag c.now) (omega arith) (flag_in c.now), tt))),
          ),
        ),
      ),
    )
    (rw (
      back minutes c.minute (omega arith) p2.0,
      back participants i.participant (omega arith) p3.0,
      back numbers i.id (omega arith) p4.0,
      back accounts i.account (omega arith) p5.0,
      back numbers_or_none i.bought (omega arith) p6.0,
      back (sold_range i.bought) i.sold big p7.0,
      back flags (flag c.now) (omega arith) (flag_in c.now),
      flag_is c.now,
    ))

module _ (c : IntermediationCall) (h : tested (intermediation_call_tests c) ≡ Ok tt) where
  abbrev call_parts : AllIn (intermediation_call_tests c)
  call_parts = all_in (intermediation_call_tests c) h

  call_plain : Plain (intermediation_call_pieces c)
  call_plain = (plain minutes c.minute (omega arith) call_parts.0, (plain participants c.participant (omega arith) call_parts.1.0, (plain numbers c.id (omega arith) call_parts.1.1.0, tt)))

  call_back : intermediation_call_line (texts (intermediation_call_pieces c)) ≡ Ok c
  call_back = rw (back minutes c.minute (omega arith) call_parts.0, back participants c.participant (omega arith) call_parts.1.0, back numbers c.id (omega arith) call_parts.1.1.0)

close_back : (c : Closing) → fields_pass (Close c) ≡ Ok tt → request (request_line (Close c)) ≡ Ok (Close c)
close_back c h =
    let p = all_in (field_tests (Close c)) h in
    from_texts 90 (pieces_of (Close c)) (λ e. omega arith) (Close c)
    (plain minutes c.minute (omega arith) p.0, (plain days c.day (omega arith) p.1.0, tt))
    (rw (back minutes c.minute (omega arith) p.0, back days c.day (omega arith) p.1.0))

-- every request whose table of entries has sixteen places, as its type says
abbrev pub Sixteen : Request → Type 0
Sixteen (Capture c) = Unit {0}
Sixteen (Cancel c) = Unit {0}
Sixteen (Include c) = length c.entries ≡ 16
Sixteen (Remove c) = Unit {0}
Sixteen (Confirm c) = Unit {0}
Sixteen (Intermediate c) = Unit {0}
Sixteen (ConfirmIntermediation c) = Unit {0}
Sixteen (ExcludeIntermediation c) = Unit {0}
Sixteen (Close c) = Unit {0}

pub request_back : (v : Request) → Sixteen v → ReadsBack v
request_back (Capture c) n h = capture_back c h
request_back (Cancel c) n h = cancel_back c h
request_back (Include c) n h = include_back c n h
request_back (Remove c) n h = from_texts 68 (side_call_pieces c) (λ e. omega arith) (Remove c) (side_call_plain c h) (rw (side_call_back c h))
request_back (Confirm c) n h = from_texts 70 (side_call_pieces c) (λ e. omega arith) (Confirm c) (side_call_plain c h) (rw (side_call_back c h))
request_back (Intermediate c) n h = intermediate_back c h
request_back (ConfirmIntermediation c) n h = from_texts 71 (intermediation_call_pieces c) (λ e. omega arith) (ConfirmIntermediation c) (call_plain c h) (rw (call_back c h))
request_back (ExcludeIntermediation c) n h = from_texts 69 (intermediation_call_pieces c) (λ e. omega arith) (ExcludeIntermediation c) (call_plain c h) (rw (call_back c h))
request_back (Close c) n h = close_back c h

-- what is no inclusion has no table
pub other_back : (v : Request) → ((c : Inclusion) → v ≡ Include c → ⊥) → ReadsBack v
other_back (Capture c) other = request_back (Capture c) tt
other_back (Cancel c) other = request_back (Cancel c) tt
other_back (Include c) other = absurd (other c refl)
other_back (Remove c) other = request_back (Remove c) tt
other_back (Confirm c) other = request_back (Confirm c) tt
other_back (Intermediate c) other = request_back (Intermediate c) tt
other_back (ConfirmIntermediation c) other = request_back (ConfirmIntermediation c) tt
other_back (ExcludeIntermediation c) other = request_back (ExcludeIntermediation c) tt
other_back (Close c) other = request_back (Close c) tt
