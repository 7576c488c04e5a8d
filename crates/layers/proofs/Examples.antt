-- Codes held and released.
use Rattle.std.proofs.Common.{◌≡◌, ℕ, true, false, List, [], ◌∷◌, Ok, Err, refl}
use Rattle.std.specs.List.{range_with_len}
use Rattle.fields.specs.declared.ground.Ground.TheVariants.{BadField, HoldsFull}
use Rattle.layers.specs.Codes.{hold_codes, hold_answer, release_codes, release_answer}
use Rattle.layers.specs.Layers.{open_markets}

abbrev full : List ℕ
full = range_with_len 1 64

one_more : hold_codes 5 (3 ∷ 7 ∷ []) ≡ 3 ∷ 5 ∷ 7 ∷ []
one_more = refl

held_once : hold_codes 7 (3 ∷ 7 ∷ []) ≡ 3 ∷ 7 ∷ []
held_once = refl

held_again_when_full : hold_answer 64 full ≡ Ok tt
held_again_when_full = refl

one_too_many : hold_answer 65 full ≡ Err record { ground = HoldsFull; place = 0 }
one_too_many = refl

nothing_changed : hold_codes 65 full ≡ full
nothing_changed = refl

place_used_again : hold_answer 65 (release_codes 1 full) ≡ Ok tt
place_used_again = refl

others_left : release_codes 5 (3 ∷ 5 ∷ 7 ∷ []) ≡ 3 ∷ 7 ∷ []
others_left = refl

not_held : release_codes 4 (3 ∷ 5 ∷ 7 ∷ []) ≡ 3 ∷ 5 ∷ 7 ∷ []
not_held = refl

not_held_is_released : release_answer 4 ≡ Ok tt
not_held_is_released = refl

out_of_range : hold_answer 100000000 [] ≡ Err record { ground = BadField; place = 1 }
out_of_range = refl

out_of_range_when_full : hold_answer 0 full ≡ Err record { ground = BadField; place = 1 }
out_of_range_when_full = refl

no_market_added :
    open_markets record { selic = true; deposited = false; registered = false } record { selic = true; deposited = true; registered = false }
    ≡ record { selic = false; deposited = true; registered = false }
no_market_added = refl
