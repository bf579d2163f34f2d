-- Which lines the journals of the system want.
use Rattle.std.specs.Prelude.{Bool, true, false}
use Rattle.aprs_base.specs.declared.journals.Kind.{Kind}
use Rattle.aprs_base.specs.declared.journals.Kind.TheVariants as kind

abbrev pub is_for_the_file : Kind → Bool
is_for_the_file _ = true

-- whoever runs the server sees links come and go, and loops
abbrev pub is_for_standard_error : Kind → Bool
is_for_standard_error kind.Refusal = false
is_for_standard_error kind.Loop = true
is_for_standard_error kind.Session = true
