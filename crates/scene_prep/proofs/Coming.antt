-- What a walk comes to at a solid, a region and a node, and what is kept of it.
use Rattle.std.proofs.Common.{◌≡◌, ◌∙◌, ℕ, List, [], ◌++◌, refl, ap, sym, Bool, true, false}
use Rattle.std.specs.Prelude.{None, Some, Option, cond}
use Rattle.std.specs.Option.{option_map}
use Rattle.std.specs.Arc.{arc_value}
use Rattle.lattice_core.specs.declared.placement.Placement.{Placement}
use Rattle.region_attr.specs.declared.attr.Attr.{Attr}
use Rattle.region_attr.specs.declared.attr.Rgb.{Rgb}
use Rattle.tree_forms.specs.Trees.{Tree}
use Rattle.name_core.specs.declared.name.Name.{Name}
use Rattle.comb_tree.specs.Nodes.{Member}
use Rattle.object_set.specs.declared.object.Body.TheVariants as bodies
use Rattle.directory.specs.Walks.{Entries}
use Rattle.shot_core.specs.Regions.{RegionBody}
use Rattle.scene_prep.specs.declared.context.Context.{Context}
use Rattle.scene_prep.specs.declared.body.Bodies.{Bodies}
use Rattle.scene_prep.specs.declared.body.BodyKey.{BodyKey}
use Rattle.scene_prep.specs.contracts.body.BodyKeyPartialEq.TheImpl as keys
use Rattle.scene_prep.specs.Expanding.{expanded}
use Rattle.scene_prep.specs.Regions.{NamedRegion, whole_region}
use Rattle.scene_prep.specs.Scenes.{path_text}
use Rattle.scene_prep.specs.Steps.{under_combs}
use Rattle.scene_prep.specs.Walking.{content, body_under, settled_in, HasBody, own_of_object, own_of_body, own_region, known_body, AreBodies}
use Rattle.scene_prep.proofs.Keys.{key_decides}

-- a body of an object's own under the key that it has in a context
pub own_content : (context : Context) (key : BodyKey) (region : NamedRegion) (path : List ℕ) (body : RegionBody) → key.by ≡ context.by → key.rgb ≡ context.colour.rgb → region.attrs ≡ []
    → path ≡ arc_value context.path ++ path_text region → body ≡ body_under key.by key.rgb region → content path body ≡ settled_in context region
own_content context key region path body by rgb none path_is body_is =
    ap (λ (p : List ℕ). content p body) path_is
    ∙ ap (λ (b : RegionBody). content (arc_value context.path ++ path_text region) b)
    (body_is
    ∙ ap (λ (p : Placement). body_under p key.rgb region) by
    ∙ ap (λ (c : Rgb). body_under context.by c region) (rgb ∙ sym (ap (λ (attrs : List Attr). (under_combs context.colour attrs).rgb) none)))

pub own_whole : (directory : Entries) (name : Name) (attr : Attr) (tree : Tree Member) → HasBody directory name (bodies.Comb attr (Some tree)) → own_region directory name None ≡ Some (whole_region (expanded directory) attr tree)
own_whole directory name attr tree there =
    ap (λ o. own_of_object (expanded directory) name o None) there.there ∙ ap (λ b. own_of_body (expanded directory) name b None) there.body_is

-- ---- what is kept
pub map_cond : {X Y : Type 0} (f : X → Y) (b : Bool) (x y : Option X) → option_map f (cond b x y) ≡ cond b (option_map f x) (option_map f y)
map_cond f true x y = refl
map_cond f false x y = refl

some_same : {a b : RegionBody} → Some a ≡ Some b → a ≡ b
some_same e = cc

kept_at : (directory : Entries) (old new : Bodies) (key : BodyKey) (value : RegionBody) → AreBodies directory old
    → ((region : NamedRegion) → own_region directory key.name key.node ≡ Some region → value ≡ body_under key.by key.rgb region)
    → (q : BodyKey) (body : RegionBody) (region : NamedRegion) (b : Bool) → keys.eq-value.it key q ≡ b → known_body new q ≡ cond b (Some value) (known_body old q)
    → known_body new q ≡ Some body → own_region directory q.name q.node ≡ Some region → body ≡ body_under q.by q.rgb region
kept_at directory old new key value known own q body region true e there is own_q =
    let same : key ≡ q = (key_decides key q).0 e in
    let found : body ≡ value = some_same (sym is ∙ there) in
    found ∙ own region (ap (λ (k : BodyKey). own_region directory k.name k.node) same ∙ own_q) ∙ ap (λ (k : BodyKey). body_under k.by k.rgb region) same
kept_at directory old new key value known own q body region false e there is own_q = known q body region (sym there ∙ is) own_q

pub kept : (directory : Entries) (old new : Bodies) (key : BodyKey) (value : RegionBody) → ((q : BodyKey) → known_body new q ≡ cond (keys.eq-value.it key q) (Some value) (known_body old q)) → AreBodies directory old
    → ((region : NamedRegion) → own_region directory key.name key.node ≡ Some region → value ≡ body_under key.by key.rgb region) → AreBodies directory new
kept directory old new key value more known own = λ q body region is own_q. kept_at directory old new key value known own q body region (keys.eq-value.it key q) refl (more q) is own_q
