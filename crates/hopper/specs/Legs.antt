-- The definitions that the contracts on legs cite, room by room.
pub use Rattle.gathered.specs.LegsLegs
pub use Rattle.gathered.specs.LegsVectors
pub use Rattle.gathered.specs.LegsLegNumbers
pub use Rattle.gathered.specs.LegsMasks
pub use Rattle.gathered.specs.LegsFlags
pub use Rattle.gathered.specs.LegsAnswers
pub use Rattle.gathered.specs.LegsMerge
pub use Rattle.gathered.specs.LegsSelect
pub use Rattle.gathered.specs.LegsUpdate
pub use Rattle.gathered.specs.RowsRows
