use Rattle.std.proofs.Common.{subst, sym}
use Rattle.std.specs.Str.{IsUtf8}
use Rattle.outside_core.proofs.FileNames.{name_text}
use Rattle.outside_core.proofs.folder.path_of.Goals as goal

pub unreachable-requires : goal.unreachable-requires
unreachable-requires c = c.in-Err.ensures.cases.0 (subst IsUtf8 (sym c.bytes.ensures.value) (name_text c.args.name.now c.bytes.ensures.named))
