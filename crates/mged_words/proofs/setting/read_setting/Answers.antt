use Rattle.std.proofs.Common.{◌∙◌, ℕ, List, ap, sym, subst}
use Rattle.std.specs.Prelude.{is_ok}
use Rattle.mged_words.specs.Readings.{IsSettingRead}
use Rattle.mged_words.proofs.LineLaws.{read_same}
use Rattle.mged_words.proofs.SettingLaws.{no_key, setting_read}
use Rattle.mged_words.proofs.setting.read_setting.Goals as goal

pub returns-in-Ok : goal.returns-in-Ok
returns-in-Ok c =
    let key = read_same c.args.key.now c.in-Ok.key (sym c.read.ensures.exact ∙ c.in-Ok.is) in
    let made = setting_read c.of_parts.result c.in-Ok.key c.in_ok-value.value.items c.of_parts.ensures.value c.of_parts.ensures.accepted c.of_parts.ensures.unknown in
    subst (λ (k : List ℕ). IsSettingRead c.of_parts.result k c.args.value.now) key (subst (λ (v : List ℕ). IsSettingRead c.of_parts.result c.in-Ok.key v) c.in_ok-value.ensures.items made)

pub returns-in-Err : goal.returns-in-Err
returns-in-Err c = no_key c.args.key.now (ap is_ok (sym c.read.ensures.exact ∙ c.in-Err.is))
