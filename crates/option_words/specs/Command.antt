-- The command that reads the words: four options, with one value each.
use Rattle.std.specs.Prelude.{true, Some, codes}
use Rattle.clap.specs.Words.{App, Rule, new_app, new_rule, with_rule}
use Rattle.clap.specs.Simple.{on_top}
use Rattle.clap.specs.declared.builder.action.ArgAction.TheVariants.{Set}

-- the option `--load`
abbrev pub load_rule : Rule
load_rule = record (new_rule (codes "load")) { long = Some (codes "load"); action = Some Set }

-- the option `--demo`
abbrev pub demo_rule : Rule
demo_rule = record (new_rule (codes "demo")) { long = Some (codes "demo"); action = Some Set }

-- the option `--replay`
abbrev pub replay_rule : Rule
replay_rule = record (new_rule (codes "replay")) { long = Some (codes "replay"); action = Some Set }

-- the option `--workers`
abbrev pub workers_rule : Rule
workers_rule = record (new_rule (codes "workers")) { long = Some (codes "workers"); action = Some Set }

-- the first word is no program's name, and there is no help and no version to ask for
abbrev pub bare_app : App
bare_app = on_top (λ s. record s { no_binary_name = true; disable_help_flag = true; disable_version_flag = true }) (new_app (codes "mgedrt"))

-- the command of the program's options
abbrev pub options_app : App
options_app = with_rule (with_rule (with_rule (with_rule bare_app load_rule) demo_rule) replay_rule) workers_rule
