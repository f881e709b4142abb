-- `report_bundle::lend_alone` meets its contract.
use mathlib.Core.Path.{refl}
use Rattle.report_bundle.proofs.Lending.{all_fits, cut_fits, lends, lends_all}
use Rattle.report_bundle.proofs.lend_alone.Goals as goal

pub wrap-requires : goal.wrap-requires
wrap-requires c = all_fits c.args.manifest.now c.args.bundle.now c.if-manifest-le-MANIFEST.true c.requires

pub shape_of-bundle-then-manifest-le-MANIFEST : goal.shape_of-bundle-then-manifest-le-MANIFEST
shape_of-bundle-then-manifest-le-MANIFEST c = c.wrap.auto.out

pub returns-then-manifest-le-MANIFEST : goal.returns-then-manifest-le-MANIFEST
returns-then-manifest-le-MANIFEST c = lends_all c.wrap.ensures refl c.if-manifest-le-MANIFEST.true

pub wrap-requires-2 : goal.wrap-requires-2
wrap-requires-2 c = cut_fits c.args.manifest.now c.args.bundle.now c.if-manifest-le-MANIFEST.false c.requires

pub shape_of-bundle : goal.shape_of-bundle
shape_of-bundle c = c.wrap-2.auto.out

pub returns : goal.returns
returns c = lends c.wrap-2.ensures refl
