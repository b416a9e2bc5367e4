-- Between bytes and map: a store as a list of places, their ids rising; the bytes that it is written in; a place put in, or taken out.
use Rattle.std.specs.Prelude.{◌≡◌, ℕ, zero, suc, ◌*◌, ◌<◌, true, eqb, ltb, List, [], ◌∷◌, ◌++◌}
use Rattle.numbers.specs.Told.{choose}
use Rattle.legs.specs.Legs.{Feet}
use Rattle.taught.specs.Room.{Place, place_bytes, zeros, pose_good, HeldFeet}

-- n places: the used ones first, then zeros
abbrev pub written : ℕ → List Place → List ℕ
written n [] = zeros (80 * n)
written zero (p ∷ ps) = []
written (suc n) (p ∷ ps) = place_bytes p.id p.pose ++ written n ps

-- a place that a put can have written
pub record Good (p : Place) : Type 0 where
  pub small : p.id < 65536
  pub good : pose_good p.pose ≡ true
  pub held : HeldFeet p.pose

-- at most n good places, ids rising from above `last`
abbrev pub Sound : ℕ → ℕ → List Place → Type 0
Sound n last [] = Unit {0}
Sound zero last (p ∷ ps) = ⊥
Sound (suc n) last (p ∷ ps) = (last < p.id) × Good p × Sound n p.id ps

-- where an id stands or is to stand, whether it does, and the ids
abbrev pub position : ℕ → List Place → ℕ
position id [] = 0
position id (p ∷ ps) = choose (ltb p.id id) (suc (position id ps)) 0

abbrev pub ids_of : List Place → List ℕ
ids_of [] = []
ids_of (p ∷ ps) = p.id ∷ ids_of ps

-- put in where its id belongs, in the place of one with that id; taken out
abbrev pub insert : ℕ → Feet → List Place → List Place
insert id f [] = record { id = id; pose = f } ∷ []
insert id f (p ∷ ps) =
    choose (ltb p.id id)
    (p ∷ insert id f ps)
    (record { id = id; pose = f } ∷ choose (eqb p.id id) ps (p ∷ ps))

abbrev pub remove : ℕ → List Place → List Place
remove id [] = []
remove id (p ∷ ps) = choose (eqb p.id id) ps (p ∷ remove id ps)
