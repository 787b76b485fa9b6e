pub mod ViewAnswers
