-- How ours fills a row of six: from the last leg to the first, each foot before those that are there. Nothing here is
-- document 01's.
use Rattle.std.specs.Prelude.{◌+◌, Bool, ◌&&◌, [], ◌∷◌, nat_lt, slice_index_or}
use Rattle.numbers.specs.Told.{choose}
use Rattle.legs.specs.Legs.{nowhere}
use Rattle.legs.specs.declared.Foot.{Foot}
use Rattle.legs.specs.declared.RowOfSix.{RowOfSix}

-- with p in the first place and the others each one place on, where the flag stands and there is room
unfoldable pub headed_by : RowOfSix → Bool → Foot → RowOfSix
headed_by s flag p =
    choose (flag && nat_lt s.len 6)
    (record {
      len = s.len + 1;
      feet =
          p
          ∷ slice_index_or s.feet 0 nowhere
          ∷ slice_index_or s.feet 1 nowhere
          ∷ slice_index_or s.feet 2 nowhere
          ∷ slice_index_or s.feet 3 nowhere
          ∷ slice_index_or s.feet 4 nowhere
          ∷ [];
    })
    s
