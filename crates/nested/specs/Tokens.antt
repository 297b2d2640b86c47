-- A tagged text as a list of tokens.
use Rattle.std.specs.Prelude.{ℕ, suc, List, [], ◌∷◌, slice_index_or}
use Rattle.nested.specs.declared.token.Class.TheVariants.{Other}
use Rattle.nested.specs.declared.token.Token.{Token}
use Rattle.nested.specs.declared.token.Token.TheVariants.{Text, Mark, Opening, Closing}

abbrev pub Opens : Token → Type 0
Opens (Text c) = ⊥
Opens (Mark t) = ⊥
Opens (Opening a) = Unit {0}
Opens (Closing b) = ⊥

abbrev pub Closes : Token → Type 0
Closes (Text c) = ⊥
Closes (Mark t) = ⊥
Closes (Opening a) = ⊥
Closes (Closing b) = Unit {0}

-- the token at a position, and past the end some byte of text
abbrev pub token_at : List Token → ℕ → Token
token_at w i = slice_index_or w i (Text Other)

-- how many opening tags a text has
abbrev pub count_opens : List Token → ℕ
count_opens [] = 0
count_opens (Text c ∷ w) = count_opens w
count_opens (Mark t ∷ w) = count_opens w
count_opens (Opening a ∷ w) = suc (count_opens w)
count_opens (Closing b ∷ w) = count_opens w
