-- The canonical line of a request: the one way of writing it.
use Rattle.std.specs.Prelude.{ℕ, Bool, cond, List, [], ◌∷◌, take}
use Rattle.fields.specs.declared.trade.Entry.{Entry}
use Rattle.fields.specs.Letters.{kind_letter, side_letter}
use Rattle.writing.specs.declared.piece.Piece.{Piece}
use Rattle.writing.specs.declared.piece.Piece.TheVariants.{Letter, Number}
use Rattle.writing.specs.Written.{line_of}
use Rattle.requests.specs.declared.request.Request.{Request}
use Rattle.requests.specs.declared.request.Request.TheVariants.{Capture, Cancel, Include, Remove, Confirm, Intermediate, ConfirmIntermediation, ExcludeIntermediation, Close}
use Rattle.requests.specs.declared.request.Inclusion.{Inclusion}
use Rattle.requests.specs.declared.request.SideCall.{SideCall}
use Rattle.requests.specs.declared.request.IntermediationCall.{IntermediationCall}
use Rattle.text.specs.Groups.{entry_group, padded}

abbrev pub flag : Bool → ℕ
flag b = cond b 1 0

-- the letter of each request
abbrev pub letter_of : Request → ℕ
letter_of (Capture c) = 67
letter_of (Cancel c) = 88
letter_of (Include c) = 73
letter_of (Remove c) = 68
letter_of (Confirm c) = 70
letter_of (Intermediate c) = 74
letter_of (ConfirmIntermediation c) = 71
letter_of (ExcludeIntermediation c) = 69
letter_of (Close c) = 90

abbrev pub entry_pieces : List Entry → List Piece
entry_pieces [] = []
entry_pieces (e ∷ es) = Number e.account ∷ Number e.quantity ∷ Number e.client ∷ entry_pieces es

abbrev pub inclusion_head : Inclusion → List Piece
inclusion_head c =
    Number c.minute ∷ Number c.participant ∷ Number c.trade ∷ Letter (side_letter c.side) ∷ Number (flag c.now) ∷ Number c.count ∷ []

abbrev pub inclusion_pieces : Inclusion → List Piece
inclusion_pieces c =
    Number c.minute ∷ Number c.participant ∷ Number c.trade ∷ Letter (side_letter c.side) ∷ Number (flag c.now) ∷ Number c.count
    ∷ entry_pieces (take c.count c.entries)

abbrev pub side_call_pieces : SideCall → List Piece
side_call_pieces c = Number c.minute ∷ Number c.participant ∷ Number c.trade ∷ Letter (side_letter c.side) ∷ []

abbrev pub intermediation_call_pieces : IntermediationCall → List Piece
intermediation_call_pieces c = Number c.minute ∷ Number c.participant ∷ Number c.id ∷ []

-- the fields behind the letter
abbrev pub pieces_of : Request → List Piece
pieces_of (Capture c) =
    Number c.minute ∷ Number c.terms.number ∷ Letter (kind_letter c.terms.kind) ∷ Number c.terms.asset ∷ Number c.terms.quantity
    ∷ Number c.terms.settlement ∷ Number c.terms.buyer.participant ∷ Number c.terms.buyer.offeror
    ∷ Number c.terms.seller.participant ∷ Number c.terms.seller.offeror ∷ []
pieces_of (Cancel c) = Number c.minute ∷ Number c.trade ∷ []
pieces_of (Include c) = inclusion_pieces c
pieces_of (Remove c) = side_call_pieces c
pieces_of (Confirm c) = side_call_pieces c
pieces_of (Intermediate c) =
    Number c.minute ∷ Number c.intermediation.participant ∷ Number c.intermediation.id ∷ Number c.intermediation.account
    ∷ Number c.intermediation.bought ∷ Number c.intermediation.sold ∷ Number (flag c.now) ∷ []
pieces_of (ConfirmIntermediation c) = intermediation_call_pieces c
pieces_of (ExcludeIntermediation c) = intermediation_call_pieces c
pieces_of (Close c) = Number c.minute ∷ Number c.day ∷ []

abbrev pub request_line : Request → List ℕ
request_line r = line_of (letter_of r) (pieces_of r)

-- a request with blanks in the places behind its entries, as it is read
abbrev pub tidy : Request → Request
tidy (Capture c) = Capture c
tidy (Cancel c) = Cancel c
tidy (Include c) = Include (record { minute = c.minute; participant = c.participant; trade = c.trade; side = c.side; now = c.now; count = c.count; entries = padded entry_group 16 (take c.count c.entries) })
tidy (Remove c) = Remove c
tidy (Confirm c) = Confirm c
tidy (Intermediate c) = Intermediate c
tidy (ConfirmIntermediation c) = ConfirmIntermediation c
tidy (ExcludeIntermediation c) = ExcludeIntermediation c
tidy (Close c) = Close c
