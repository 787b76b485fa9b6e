-- The lists of a run, of `script_run`.
pub use Rattle.script_run.specs.Answers.{core_answers, answers_at}
