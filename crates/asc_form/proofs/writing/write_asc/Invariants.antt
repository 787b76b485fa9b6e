use Rattle.std.proofs.Common.{◌≡◌, take}
use Rattle.asc_form.specs.Written.{written}
use Rattle.asc_form.proofs.writing.write_asc.Given as goal

abbrev pub invariant-loop-place : goal.invariant-loop-place
invariant-loop-place l = l.text.items ≡ written (record { title = l.directory.title; objects = take l.place l.directory.objects })
