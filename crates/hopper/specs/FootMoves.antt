-- The definitions that the contracts on foot moves and poses cite, room by room.
pub use Rattle.gathered.specs.MovesDistance
pub use Rattle.gathered.specs.MovesMoving
pub use Rattle.gathered.specs.MovesAnswers
pub use Rattle.gathered.specs.MovesRefusals
pub use Rattle.gathered.specs.MovesEntries
pub use Rattle.gathered.specs.MovesIterators
pub use Rattle.gathered.specs.WalksWalk
pub use Rattle.gathered.specs.WalksAnswers
pub use Rattle.gathered.specs.LinesDigits
pub use Rattle.gathered.specs.LinesFields
pub use Rattle.gathered.specs.PosesDecimals
pub use Rattle.gathered.specs.PosesJson
pub use Rattle.gathered.specs.PosesHow
pub use Rattle.gathered.specs.PosesNames
pub use Rattle.gathered.specs.PosesAnswers
pub use Rattle.gathered.specs.PosesReading
pub use Rattle.gathered.specs.PosesWriting
