-- The definitions that the contract of the step in whole numbers cites.
pub use Rattle.gathered.specs.WholesWholes
pub use Rattle.gathered.specs.WholesAnswers
