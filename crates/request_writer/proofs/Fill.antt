-- The pieces of entries, one entry more at a time.
use Rattle.std.proofs.Common.{◌≡◌, ℕ, ◌+◌, ◌<◌, List, [], ◌∷◌, ◌++◌, length, get_or, take, sym, refl, ap, ◌∙◌, append_assoc}
use Rattle.std.proofs.lemmas.List.{take_more}
use Rattle.fields.specs.declared.trade.Entry.{Entry}
use Rattle.writing.specs.declared.piece.Piece.{Piece}
use Rattle.writing.specs.declared.piece.Piece.TheVariants.{Number}
use Rattle.text.specs.Groups.{entry_group}
use Rattle.request_writer.specs.Canonical.{entry_pieces}

pub entry_pieces_append : (es fs : List Entry) → entry_pieces (es ++ fs) ≡ entry_pieces es ++ entry_pieces fs
entry_pieces_append [] fs = refl
entry_pieces_append (e ∷ es) fs = ap (λ l. Number e.account ∷ Number e.quantity ∷ Number e.client ∷ l) (entry_pieces_append es fs)

-- one more entry behind the others
pub entry_more : (head : List Piece) (es : List Entry) (i : ℕ) → i < length es → (head ++ entry_pieces (take i es)) ++ entry_pieces (get_or es i entry_group.blank ∷ []) ≡ head ++ entry_pieces (take (i + 1) es)
entry_more head es i h =
    let e = get_or es i entry_group.blank in
    append_assoc head (entry_pieces (take i es)) (entry_pieces (e ∷ [])) ∙ ap (λ l. head ++ l) (sym (ap entry_pieces (take_more es i entry_group.blank h) ∙ entry_pieces_append (take i es) (e ∷ [])))
