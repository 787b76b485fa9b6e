use Rattle.std.proofs.Common.{◌≡◌, [], Err, subst, sym, arith, rules}
use Rattle.report_text.specs.Listings.{listing_of, listings}
use Rattle.report_text.specs.Texts.{IsText}
use Rattle.report_text.proofs.PushLaws.{pushed_few, each_fault, no_text}
use Rattle.report_text.proofs.trees.tree_text.Goals as goal

pub push_listing-requires : goal.push_listing-requires
push_listing-requires c =
    omega (arith, c.requires, pushed_few c.loop-name.left [] c.loop-name.body _ c.args.room c.loop-name.invariant)

pub returns-in_err-left : goal.returns-in_err-left
returns-in_err-left c =
    let same : c.from_residual.result ≡ Err c.in_err-left.field-0.0 = search rules in
    let lines = listings c.args.directory.now.objects c.args.names.now in
    record {
      text = subst (λ r. IsText r lines c.args.room) (sym same)
          (no_text c.in_err-left.field-0.0 [] [] lines c.args.room
          (each_fault (listing_of c.args.directory.now.objects) c.args.names.now c.loop-name.name-index c.name-item.result c.in_err-left.field-0.0 c.loop-name.left [] c.loop-name.body c.push_listing.new.body [] [] c.args.room
          c.loop-name-test.true c.name-item.is c.loop-name.invariant c.in_err-left.ensures));
    }
