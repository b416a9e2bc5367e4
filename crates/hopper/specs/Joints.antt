-- The definitions that the contracts on joints cite, room by room.
pub use Rattle.gathered.specs.JointsConfigured
pub use Rattle.gathered.specs.JointsDegrees
pub use Rattle.gathered.specs.JointsAnswers
pub use Rattle.gathered.specs.JointsInverse
pub use Rattle.gathered.specs.JointsStrict
pub use Rattle.gathered.specs.JointsForward
