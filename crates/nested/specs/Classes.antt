-- The class of a byte: space for tab, line feed, carriage return and space, digit for 0 to 9, other for the rest.
use Rattle.std.specs.Prelude.{ℕ, Bool, if◌then◌else◌, ◌&&◌, ◌||◌, ◌==◌, nat_le}
use Rattle.nested.specs.declared.token.Class.{Class}
use Rattle.nested.specs.declared.token.Class.TheVariants.{Space, Digit, Other}

abbrev pub is_space : ℕ → Bool
is_space b = b == 0x09 || b == 0x0a || b == 0x0d || b == 0x20

abbrev pub is_digit : ℕ → Bool
is_digit b = nat_le 0x30 b && nat_le b 0x39

abbrev pub class_of : ℕ → Class
class_of b = if is_space b then Space else if is_digit b then Digit else Other

-- the number of a class
abbrev pub class_number : Class → ℕ
class_number Space = 0
class_number Digit = 1
class_number Other = 2
