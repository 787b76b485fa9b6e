-- `==` on keys of bodies says whether they are one, and what is kept under a key.
use Rattle.std.proofs.Common.{◌≡◌, ℕ, refl, ap}
use Rattle.std.specs.Prelude.{None, Some, Option}
use Rattle.std.specs.Bool.{Decides, nat_eq}
use Rattle.std.specs.Option.{option_eq}
use Rattle.std.proofs.lemmas.Bool.Decides.{Decides-eqb, Decides-and, Decides-like}
use Rattle.name_core.specs.Same.{same_name_decides}
use Rattle.region_attr.specs.declared.attr.Rgb.{Rgb}
use Rattle.region_attr.specs.contracts.attr.RgbPartialEq.TheImpl as colours
use Rattle.comb_tree.proofs.Equal.{placement_decides}
use Rattle.scene_prep.specs.declared.body.BodyKey.{BodyKey}
use Rattle.scene_prep.specs.contracts.body.BodyKeyPartialEq.TheImpl as keys

same_rgb : (a b : Rgb) → a.r ≡ b.r → a.g ≡ b.g → a.b ≡ b.b → a ≡ b
same_rgb a b p q r = λ i. record { r = p i; g = q i; b = r i }

pub rgb_decides : (a b : Rgb) → Decides (colours.eq-value.it a b) (a ≡ b)
rgb_decides a b =
    Decides-like _ (λ h. same_rgb a b h.0 h.1.0 h.1.1) (λ e. (ap (λ (c : Rgb). c.r) e, (ap (λ (c : Rgb). c.g) e, ap (λ (c : Rgb). c.b) e)))
    (Decides-and _ _ (Decides-eqb a.r b.r) (Decides-and _ _ (Decides-eqb a.g b.g) (Decides-eqb a.b b.b)))

number_decides : (a b : Option ℕ) → Decides (option_eq nat_eq a b) (a ≡ b)
number_decides None None = (λ h. refl, λ e. refl)
number_decides None (Some m) = (λ h. cc, λ e. cc)
number_decides (Some n) None = (λ h. cc, λ e. cc)
number_decides (Some n) (Some m) = Decides-like _ (λ e. ap Some e) (λ e. cc) (Decides-eqb n m)

same_key : (a b : BodyKey) → a.name ≡ b.name → a.node ≡ b.node → a.by ≡ b.by → a.rgb ≡ b.rgb → a ≡ b
same_key a b p q r s = λ i. record { name = p i; node = q i; by = r i; rgb = s i }

pub key_decides : (a b : BodyKey) → Decides (keys.eq-value.it a b) (a ≡ b)
key_decides a b =
    Decides-like _ (λ h. same_key a b h.0 h.1.0 h.1.1.0 h.1.1.1)
    (λ e. (ap (λ (k : BodyKey). k.name) e, (ap (λ (k : BodyKey). k.node) e, (ap (λ (k : BodyKey). k.by) e, ap (λ (k : BodyKey). k.rgb) e))))
    (Decides-and _ _ (same_name_decides a.name b.name) (Decides-and _ _ (number_decides a.node b.node) (Decides-and _ _ (placement_decides a.by b.by) (rgb_decides a.rgb b.rgb))))
