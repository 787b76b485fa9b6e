pub mod SayLaws
