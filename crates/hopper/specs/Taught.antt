-- The definitions that the contracts on taught poses cite, room by room.
pub use Rattle.gathered.specs.PackedPacked
pub use Rattle.gathered.specs.TaughtAnswers
pub use Rattle.gathered.specs.TaughtMap
pub use Rattle.gathered.specs.TaughtRoom
