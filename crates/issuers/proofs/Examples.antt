-- Bands and rolls, and the numbers that they have.
use Rattle.std.proofs.Common.{◌≡◌, [], ◌∷◌, Some, None, Ok, Err, refl}
use Rattle.fields.specs.declared.ground.Ground.TheVariants.{BadField, EndsEarly}
use Rattle.keyed.specs.Fronts.{ends_early}
use Rattle.issuers.specs.Bands.{band, band_fault}
use Rattle.issuers.specs.Rolls.{rising}

three : band 501 503 ≡ 501 ∷ 502 ∷ 503 ∷ []
three = refl

one : band 7 7 ≡ 7 ∷ []
one = refl

turned : band 8 7 ≡ []
turned = refl

turned_is_no_fault : band_fault 8 7 ≡ None
turned_is_no_fault = refl

first_out_of_range : band_fault 0 1000000000001 ≡ Some record { ground = BadField; place = 1 }
first_out_of_range = refl

last_out_of_range : band_fault 1000000000000 1000000000001 ≡ Some record { ground = BadField; place = 2 }
last_out_of_range = refl

before_the_fall : rising 0 (3 ∷ 5 ∷ 5 ∷ 9 ∷ []) ≡ 3 ∷ 5 ∷ []
before_the_fall = refl

before_the_greatest : rising 0 (3 ∷ 1000000000000 ∷ 1000000000001 ∷ []) ≡ 3 ∷ 1000000000000 ∷ []
before_the_greatest = refl

no_zero : rising 0 (0 ∷ 1 ∷ []) ≡ []
no_zero = refl

third_row : ends_early 2 4 ≡ Err record { ground = EndsEarly; place = 3 }
third_row = refl

whole_table : ends_early 4 4 ≡ Ok tt
whole_table = refl
