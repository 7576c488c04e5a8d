-- The fields that are letters.
use Rattle.std.specs.Prelude.{ℕ, Bool, true, false, cond, not, ◌&&◌, ◌||◌, List, [], ◌∷◌, Some, None, Option, ◌==◌}
use Rattle.fields.specs.declared.account.AccountType.{AccountType}
use Rattle.fields.specs.declared.account.AccountType.TheVariants.{SL, SI, PO, IN, C1, C2, EM, RT}
use Rattle.fields.specs.declared.account.Markets.{Markets}
use Rattle.fields.specs.declared.account.Status.{Status}
use Rattle.fields.specs.declared.account.Status.TheVariants.{Active, Blocked}
use Rattle.fields.specs.declared.trade.Kind.{Kind}
use Rattle.fields.specs.declared.trade.Kind.TheVariants.{Selic, Deposited, Registered}
use Rattle.fields.specs.declared.trade.Side.{Side}
use Rattle.fields.specs.declared.trade.Side.TheVariants.{Buyer, Seller}
use Rattle.text.specs.Fields.{single}

-- what a field of one letter means
abbrev pub letter : {A : Type 0} → (ℕ → Option A) → Option ℕ → Option A
letter means None = None
letter means (Some b) = means b

-- S, D or R
abbrev pub kind_of : ℕ → Option Kind
kind_of b = cond (b == 83) (Some Selic) (cond (b == 68) (Some Deposited) (cond (b == 82) (Some Registered) None))

-- B or S
abbrev pub side_of : ℕ → Option Side
side_of b = cond (b == 66) (Some Buyer) (cond (b == 83) (Some Seller) None)

-- A or B
abbrev pub status_of : ℕ → Option Status
status_of b = cond (b == 65) (Some Active) (cond (b == 66) (Some Blocked) None)

abbrev pub kind : List ℕ → Option Kind
kind f = letter kind_of (single f)

abbrev pub side : List ℕ → Option Side
side f = letter side_of (single f)

abbrev pub status : List ℕ → Option Status
status f = letter status_of (single f)

-- two given letters
abbrev pub both : ℕ → ℕ → ℕ → ℕ → Bool
both a b x y = x == a && y == b

-- SL, SI, PO, IN, C1, C2, EM or RT
abbrev pub class_of : ℕ → ℕ → Option AccountType
class_of x y =
    cond (both 83 76 x y) (Some SL) (
    cond (both 83 73 x y) (Some SI) (
    cond (both 80 79 x y) (Some PO) (
    cond (both 73 78 x y) (Some IN) (
    cond (both 67 49 x y) (Some C1) (
    cond (both 67 50 x y) (Some C2) (
    cond (both 69 77 x y) (Some EM) (
    cond (both 82 84 x y) (Some RT) None)))))))

abbrev pub class : List ℕ → Option AccountType
class [] = None
class (x ∷ []) = None
class (x ∷ y ∷ []) = class_of x y
class (x ∷ y ∷ z ∷ zs) = None

-- whether a field begins with a letter, and what is left of it behind that
abbrev pub begins : ℕ → List ℕ → Bool
begins b [] = false
begins b (x ∷ xs) = x == b

abbrev pub past : ℕ → List ℕ → List ℕ
past b [] = []
past b (x ∷ xs) = cond (x == b) xs (x ∷ xs)

abbrev pub empty : List ℕ → Bool
empty [] = true
empty (x ∷ xs) = false

-- S, D and R in this order, at least one of them, and nothing else
abbrev pub markets : List ℕ → Option Markets
markets f =
    cond (empty f || not (empty (past 82 (past 68 (past 83 f)))))
    None
    (Some record { selic = begins 83 f; deposited = begins 68 (past 83 f); registered = begins 82 (past 68 (past 83 f)) })
