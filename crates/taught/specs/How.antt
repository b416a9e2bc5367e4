-- How ours computes: what is looked at in one pass, and how bytes move.
use Rattle.std.specs.Prelude.{ℕ, zero, suc, ◌+◌, ◌-◌, ◌*◌, ◌%◌, Bool, true, ◌&&◌, List, ◌++◌, take, drop, nat_le}
use Rattle.std.specs.Prelude.{Result, Ok, Err}
use Rattle.std.proofs.Math.Seq.{slice}
use Rattle.numbers.specs.Told.{choose}
use Rattle.numbers.specs.declared.refusal.Refusal.{Refusal}
use Rattle.numbers.specs.declared.refusal.Refusal.TheVariants.{NoRoom}
use Rattle.packed.specs.Packed.{word_at}
use Rattle.taught.specs.declared.look.Seen.{Seen}
use Rattle.taught.specs.Room.{used, taught, place_for, has, zeros}

-- a coordinate by its bits: without its sign at most 4's
abbrev pub low : ℕ → Bool
low bits = nat_le (bits % 2147483648) 1082130432

-- n words from a place on
unfoldable pub words_low : ℕ → List ℕ → ℕ → Bool
unfolding word_at
words_low zero l at = true
words_low (suc n) l at = words_low n l at && low (word_at l (at + 4 * n))

-- what the calls need of a room and an id, or 17
abbrev pub all_seen : ℕ → List ℕ → Seen
all_seen id room = record { used = used room; place = place_for id room; there = has id room }

abbrev pub seen_of : ℕ → List ℕ → Result Seen Refusal
seen_of id room = choose (taught room) (Ok (all_seen id room)) (Err NoRoom)

-- the bytes from one place to another go 80 up; those behind go 80 down, onto the places from one to another; places become 0
unfoldable pub up : List ℕ → ℕ → ℕ → List ℕ
up l to from = take (from + 80) l ++ (slice from to l ++ drop (to + 80) l)

unfoldable pub down : List ℕ → ℕ → ℕ → List ℕ
down l from to = take from l ++ (slice (from + 80) (to + 80) l ++ drop to l)

unfoldable pub cleared : List ℕ → ℕ → ℕ → List ℕ
cleared l from to = take from l ++ (zeros (to - from) ++ drop to l)
