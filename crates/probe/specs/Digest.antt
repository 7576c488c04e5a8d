-- A number that depends on every field of a request.
use Rattle.std.specs.Prelude.{ℕ, ◌+◌, ◌*◌, ◌%◌, ◌^◌, Bool, cond, List, [], ◌∷◌, Ok, Err, Result, fold}
use Rattle.fields.specs.Grounds.{number_of}
use Rattle.fields.specs.declared.answer.Refusal.{Refusal}
use Rattle.fields.specs.declared.trade.Entry.{Entry}
use Rattle.fields.specs.declared.trade.Kind.{Kind}
use Rattle.fields.specs.declared.trade.Kind.TheVariants.{Selic, Deposited, Registered}
use Rattle.fields.specs.declared.trade.Side.{Side}
use Rattle.fields.specs.declared.trade.Side.TheVariants.{Buyer, Seller}
use Rattle.requests.specs.declared.request.Request.{Request}
use Rattle.requests.specs.declared.request.Request.TheVariants.{Capture, Cancel, Include, Remove, Confirm, Intermediate, ConfirmIntermediation, ExcludeIntermediation, Close}

abbrev pub mix : ℕ → ℕ → ℕ
mix h x = (h * 31 % 2 ^ 64 + x) % 2 ^ 64

abbrev pub mix_all : ℕ → List ℕ → ℕ
mix_all start xs = fold mix start xs

abbrev pub weight : Entry → ℕ
weight e = e.account + 3 * e.quantity + 7 * e.client

abbrev pub entries_from : ℕ → List Entry → ℕ
entries_from start es = fold (λ h e. (h + weight e) % 2 ^ 64) start es

abbrev pub kind_code : Kind → ℕ
kind_code Selic = 1
kind_code Deposited = 2
kind_code Registered = 3

abbrev pub side_code : Side → ℕ
side_code Buyer = 1
side_code Seller = 2

abbrev pub flag : Bool → ℕ
flag b = cond b 1 0

abbrev pub of_request : Request → ℕ
of_request (Capture c) =
    mix_all 1 (c.minute ∷ c.terms.number ∷ kind_code c.terms.kind ∷ c.terms.asset ∷ c.terms.quantity ∷ c.terms.settlement
    ∷ c.terms.buyer.participant ∷ c.terms.buyer.offeror ∷ c.terms.seller.participant ∷ c.terms.seller.offeror ∷ [])
of_request (Cancel c) = mix_all 2 (c.minute ∷ c.trade ∷ [])
of_request (Include c) = entries_from (mix_all 3 (c.minute ∷ c.participant ∷ c.trade ∷ side_code c.side ∷ flag c.now ∷ c.count ∷ [])) c.entries
of_request (Remove c) = mix_all 4 (c.minute ∷ c.participant ∷ c.trade ∷ side_code c.side ∷ [])
of_request (Confirm c) = mix_all 5 (c.minute ∷ c.participant ∷ c.trade ∷ side_code c.side ∷ [])
of_request (Intermediate c) =
    mix_all 6 (c.minute ∷ c.intermediation.participant ∷ c.intermediation.id ∷ c.intermediation.account ∷ c.intermediation.bought ∷ c.intermediation.sold ∷ flag c.now ∷ [])
of_request (ConfirmIntermediation c) = mix_all 7 (c.minute ∷ c.participant ∷ c.id ∷ [])
of_request (ExcludeIntermediation c) = mix_all 8 (c.minute ∷ c.participant ∷ c.id ∷ [])
of_request (Close c) = mix_all 9 (c.minute ∷ c.day ∷ [])

abbrev pub digest : Result Request Refusal → ℕ
digest (Ok v) = of_request v
digest (Err f) = mix_all 10 (number_of f.ground ∷ f.place ∷ [])
