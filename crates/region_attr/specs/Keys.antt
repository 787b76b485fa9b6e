-- The keys of attributes.
use Rattle.std.specs.Prelude.{ℕ, List, Option, Some, None, codes, if◌then◌else◌}
use Rattle.std.specs.Str.{bytes_eq}
use Rattle.region_attr.specs.declared.key.Key.{Key}
use Rattle.region_attr.specs.declared.key.Key.TheVariants.{Region, Id, Air, Los, Mater, Rgb, Inherit}

-- which of the seven attributes a key names
abbrev pub key_of : List ℕ → Option Key
key_of key =
    if bytes_eq key (codes "region") then Some Region
    else (if bytes_eq key (codes "id") then Some Id
    else (if bytes_eq key (codes "air") then Some Air
    else (if bytes_eq key (codes "los") then Some Los
    else (if bytes_eq key (codes "mater") then Some Mater
    else (if bytes_eq key (codes "rgb") then Some Rgb
    else (if bytes_eq key (codes "inherit") then Some Inherit else None))))))
