-- Whether names of tiles are the same, as `==` answers.
use Rattle.std.specs.Prelude.{◌==◌, ◌&&◌, ◌++◌, ℕ, Bool, fold}
use Rattle.std.specs.Hash as fed
use Rattle.std.specs.Hash.{HashWrites}
use Rattle.std.specs.Hash.FoldHasher as folding
use Rattle.std.specs.Cmp.Lexicographic.{pointwise}
use Rattle.region_attr.specs.contracts.attr.RgbPartialEq.TheImpl as colours
use Rattle.lattice_core.specs.contracts.boxes.Box3PartialEq.TheImpl as boxes
use Rattle.lattice_core.specs.contracts.view.ViewPartialEq.TheImpl as views
use Rattle.lattice_core.specs.contracts.view.ViewHash.TheImpl as hashed_views
use Rattle.solid_set.specs.contracts.surface.SurfacePartialEq.TheImpl as surfaces
use Rattle.bool_weave.specs.Masks.{mask_nodes}
use Rattle.bool_weave.specs.contracts.mask.MaskNodePartialEq.TheImpl as nodes
use Rattle.shot_core.specs.Digests.{body_digest}
use Rattle.shot_core.specs.Regions.{Instance, RegionBody}
use Rattle.tile_shot.specs.Named.{TileName}

abbrev pub same_instance : Instance → Instance → Bool
same_instance a b = surfaces.eq-value.it a.surface b.surface && boxes.eq-value.it a.bounds b.bounds

abbrev pub same_body : RegionBody → RegionBody → Bool
same_body a b =
    (a.id == b.id)
    && ((a.air == b.air) && (colours.eq-value.it a.rgb b.rgb && (pointwise nodes.eq-value.it (mask_nodes a.tree) (mask_nodes b.tree) && pointwise same_instance a.instances b.instances)))

-- whether two names are one: the same view, number and bodies
abbrev pub same_name : TileName → TileName → Bool
same_name a b = views.eq-value.it a.view b.view && ((a.tile == b.tile) && pointwise same_body a.bodies b.bodies)

-- what a hasher is fed of the hash of a body
abbrev pub digest_fed : RegionBody → HashWrites
digest_fed body = fed.u64 (body_digest body)

-- a view, the number of a tile, and the hashes of the bodies
abbrev pub name_input : TileName → HashWrites
name_input key = hashed_views.hash_input-value.it key.view ++ (fed.u32 key.tile ++ fed.slice digest_fed key.bodies)

-- the hash of a name
unfoldable pub digest_of : TileName → ℕ
digest_of name = folding.finish (fold folding.write folding.initial (name_input name))

-- what a hasher is fed of a name: that hash
abbrev pub digest_input : TileName → HashWrites
digest_input name = fed.u64 (digest_of name)
