-- The words of the code: the keys of solids by their places.
use Rattle.std.specs.Prelude.{ℕ, ◌==◌, List, codes, if◌then◌else◌}
use Rattle.word_values.specs.SolidForms.{Key, vector_key, normal_key, number_key}
use Rattle.word_values.specs.declared.solid_form.SolidForm.{SolidForm}
use Rattle.word_values.specs.declared.solid_form.SolidForm.TheVariants.{Sphere, Ellipsoid, Half, Arb8, Rcc}

abbrev pub ellipsoid_name : ℕ → List ℕ
ellipsoid_name place =
    if place == 0 then codes "V" else (if place == 1 then codes "A" else (if place == 2 then codes "B" else codes "C"))

abbrev pub vertex_name : ℕ → List ℕ
vertex_name place =
    if place == 0 then codes "V1" else (if place == 1 then codes "V2" else (if place == 2 then codes "V3" else (if place == 3 then codes "V4"
    else (if place == 4 then codes "V5" else (if place == 5 then codes "V6" else (if place == 6 then codes "V7" else codes "V8"))))))

abbrev pub key_by : SolidForm → ℕ → Key
key_by Sphere place = if place == 0 then vector_key (codes "V") else number_key (codes "r")
key_by Ellipsoid place = vector_key (ellipsoid_name place)
key_by Half place = if place == 0 then normal_key (codes "N") else number_key (codes "d")
key_by Arb8 place = vector_key (vertex_name place)
key_by Rcc place = if place == 0 then vector_key (codes "V") else (if place == 1 then vector_key (codes "H") else number_key (codes "r"))
