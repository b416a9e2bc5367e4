-- The definitions that the contracts on commands, steps and the planner cite, room by room.
pub use Rattle.gathered.specs.CommandsConstants
pub use Rattle.gathered.specs.CommandsTimes
pub use Rattle.gathered.specs.CommandsTripods
pub use Rattle.gathered.specs.CommandsAnswers
pub use Rattle.gathered.specs.CommandsCommand
pub use Rattle.gathered.specs.StepsProgress
pub use Rattle.gathered.specs.StepsLeg
pub use Rattle.gathered.specs.StepsShift
pub use Rattle.gathered.specs.StepsMarks
pub use Rattle.gathered.specs.StepsNext
pub use Rattle.gathered.specs.StepsAnswers
pub use Rattle.gathered.specs.StepsRefusals
pub use Rattle.gathered.specs.StepsEntries
pub use Rattle.gathered.specs.PlannerTurns
pub use Rattle.gathered.specs.PlannerPlan
pub use Rattle.gathered.specs.PlannerEntry
