-- Rows that tell a key, and tables of them.
use Rattle.std.specs.Prelude.{ℕ, ◌+◌, ◌-◌, Bool, true, cond, ◌&&◌, List, [], ◌∷◌, ◌++◌, length, take, Some, None, Option, ◌==◌, nat_le, nat_lt}
use Rattle.keyed.specs.Lists.{all}

-- the row with key k
abbrev pub find : {R : Type 0} → (R → ℕ) → ℕ → List R → Option R
find key k [] = None
find key k (x ∷ xs) = cond (key x == k) (Some x) (find key k xs)

-- that row changed, or taken out
abbrev pub changed : {R : Type 0} → (R → ℕ) → ℕ → (R → R) → List R → List R
changed key k f [] = []
changed key k f (x ∷ xs) = cond (key x == k) (f x ∷ xs) (x ∷ changed key k f xs)

abbrev pub removed : {R : Type 0} → (R → ℕ) → ℕ → List R → List R
removed key k [] = []
removed key k (x ∷ xs) = cond (key x == k) xs (x ∷ removed key k xs)

-- a row put in before the first whose key is not below its own
abbrev pub entered : {R : Type 0} → (R → ℕ) → R → List R → List R
entered key new [] = new ∷ []
entered key new (x ∷ xs) = cond (nat_lt (key x) (key new)) (x ∷ entered key new xs) (new ∷ (x ∷ xs))

-- each key above the one before it, the first above k
abbrev pub rises_above : {R : Type 0} → (R → ℕ) → ℕ → List R → Bool
rises_above key k [] = true
rises_above key k (x ∷ xs) = nat_lt k (key x) && rises_above key (key x) xs

-- a lent table: how many rows are in use, how many it has, and those in use
pub record Table (R : Type 0) : Type 0 where
  pub count : ℕ
  pub size : ℕ
  pub rows : List R

abbrev pub table : {R : Type 0} → ℕ → List R → Table R
table n xs = record { count = n; size = length xs; rows = take n xs }

-- has its rows, each good, and no more than the limit
unfoldable pub whole : {R : Type 0} → ℕ → (R → Bool) → Table R → Bool
whole limit good t = nat_le t.count t.size && nat_le t.count limit && all good t.rows

-- has n more rows free
unfoldable pub room : {R : Type 0} → ℕ → ℕ → Table R → Bool
room limit n t = nat_le (t.count + n) t.size && nat_le (t.count + n) limit

abbrev pub with_rows : {R : Type 0} → ℕ → List R → Table R → Table R
with_rows n xs t = record { count = n; size = t.size; rows = xs }

abbrev pub cleared : {R : Type 0} → Table R → Table R
cleared t = with_rows 0 [] t

abbrev pub entered_in : {R : Type 0} → (R → ℕ) → R → Table R → Table R
entered_in key new t = with_rows (t.count + 1) (entered key new t.rows) t

abbrev pub changed_in : {R : Type 0} → (R → ℕ) → ℕ → (R → R) → Table R → Table R
changed_in key k f t = with_rows t.count (changed key k f t.rows) t

abbrev pub removed_in : {R : Type 0} → (R → ℕ) → ℕ → Table R → Table R
removed_in key k t = with_rows (t.count - 1) (removed key k t.rows) t

abbrev pub appended_in : {R : Type 0} → List R → Table R → Table R
appended_in new t = with_rows (t.count + length new) (t.rows ++ new) t
