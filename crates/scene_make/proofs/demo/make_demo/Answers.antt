use Rattle.std.proofs.Common.{◌≡◌, ◌∙◌, ℕ, ap, arith, length}
use Rattle.asc_form.specs.Written.{written}
use Rattle.scene_make.specs.Demo as demo
use Rattle.scene_make.proofs.AgainLaws.{demo_again}
use Rattle.scene_make.proofs.SizeLaws.{demo_short, script_short}
use Rattle.scene_make.proofs.demo.make_demo.Goals as goal

pub returns-clause-short : goal.returns-clause-short
returns-clause-short c =
    let load : c.of_vec-load.result ≡ written (demo.demo c.args.n) = c.of_vec-load.ensures ∙ c.in_ok-model.ensures in
    let script : c.of_vec-script.result ≡ demo.demo_script = c.of_vec-script.ensures ∙ c.in_ok-script.ensures in
    let load_length : length c.of_vec-load.result ≡ length (written (demo.demo c.args.n)) = ap (length {A = ℕ}) load in
    let script_length : length c.of_vec-script.result ≡ length demo.demo_script = ap (length {A = ℕ}) script in
    (omega (arith, load_length, demo_short c.args.n c.requires), omega (arith, script_length, script_short))

pub returns-clause-again : goal.returns-clause-again
returns-clause-again c = demo_again c.args.n c.requires
