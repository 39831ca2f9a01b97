-- How a text is read, as functions on lists, for private clauses. A function answers what it reads and the bytes behind it, or nothing.
use Rattle.std.specs.Prelude.{ℕ, zero, suc, ◌^◌, ◌&&◌, ◌||◌, ◌==◌, nat_lt, nat_le, List, [], ◌∷◌, ◌++◌, length, drop, map, Bool, true, false, cond, ℤ, Option, Some, None, option_map, option_and_then, codes}
use Rattle.std.specs.Fmt.{signed_decimal}
use Rattle.std.specs.Char.{encode_utf8}
use Rattle.std.specs.Str.{bytes_eq, is_utf8}
use Rattle.std.specs.Str.Parse.{signed_digits_value}
use lib.Signed.{mag}
use Rattle.vx_data.specs.Tree.{Tree, null, boolean, int, text, array, object}
use Rattle.vx_data.specs.Bodies.{elements, gathered, tree_depth, deepest_element, deepest_member}
use Rattle.vx_json.specs.Grammar.{is_blank, max_nesting, max_read_depth}
use Rattle.vx_json.specs.Texts.{Code, is_code, value, joint, unescaped}

abbrev pub Reader : Type 0 → Type 0
Reader A = List ℕ → Option (A × List ℕ)

-- the items that stand in front of those that were read
abbrev pub with_front : {A : Type 0} → List A → Option (List A × List ℕ) → Option (List A × List ℕ)
with_front front read = option_map (λ p. (front ++ p.0, p.1)) read

-- what is read, under f
abbrev pub seen_as : {A B : Type 0} → (A → B) → Option (A × List ℕ) → Option (B × List ℕ)
seen_as f read = option_map (λ p. (f p.0, p.1)) read

-- the bytes behind white space
unfoldable pub skip : List ℕ → List ℕ
skip [] = []
skip (b ∷ bs) = cond (is_blank b) (skip bs) (b ∷ bs)

-- the bytes behind the word, where they begin with it
unfoldable pub after : List ℕ → List ℕ → Option (List ℕ)
after [] bs = Some bs
after (w ∷ ws) [] = None
after (w ∷ ws) (b ∷ bs) = cond (b == w) (after ws bs) None

-- ---- numbers

abbrev pub is_numeral : ℕ → Bool
is_numeral b = (b == 45) || (nat_le 48 b && nat_le b 57)

unfoldable pub numeral : List ℕ → List ℕ
numeral [] = []
numeral (b ∷ bs) = cond (is_numeral b) (b ∷ numeral bs) []

abbrev pub if_exact : ℤ → List ℕ → Option ℤ
if_exact n s = cond (nat_lt (mag n) (2 ^ 63) && bytes_eq (signed_decimal n) s) (Some n) None

-- the number whose decimal text this is
unfoldable pub number_of : List ℕ → Option ℤ
number_of s = if_exact (signed_digits_value 10 s) s

unfoldable pub number_at : Reader ℤ
number_at bs = option_map (λ n. (n, drop (length (numeral bs)) bs)) (number_of (numeral bs))

-- ---- texts

abbrev pub if_code : Code → List ℕ → Option (ℕ × List ℕ)
if_code k bs = cond (is_code k) (Some (value k, bs)) None

-- four hexadecimal digits, as a number
unfoldable pub code_at : Reader ℕ
code_at [] = None
code_at (a ∷ []) = None
code_at (a ∷ b ∷ []) = None
code_at (a ∷ b ∷ c ∷ []) = None
code_at (a ∷ b ∷ c ∷ d ∷ bs) = if_code record { first = a; second = b; third = c; fourth = d } bs

abbrev pub is_high : ℕ → Bool
is_high c = nat_le 55296 c && nat_lt c 56320

abbrev pub is_low : ℕ → Bool
is_low c = nat_le 56320 c && nat_lt c 57344

-- the character, behind \u and a high surrogate
unfoldable pub low_at : ℕ → Reader ℕ
low_at high bs = option_and_then (λ rest. option_and_then (λ p. cond (is_low p.0) (Some (joint high p.0, p.1)) None) (code_at rest)) (after (92 ∷ 117 ∷ []) bs)

-- the character, behind \u
unfoldable pub unicode_at : Reader ℕ
unicode_at bs = option_and_then (λ p. cond (is_high p.0) (low_at p.0 p.1) (cond (is_low p.0) None (Some p))) (code_at bs)

-- the bytes that are meant, behind \
unfoldable pub escape_at : Reader (List ℕ)
escape_at [] = None
escape_at (e ∷ bs) = cond (e == 117) (seen_as encode_utf8 (unicode_at bs)) (option_map (λ b. (b ∷ [], bs)) (unescaped e))

-- the bytes that a piece stands for
unfoldable pub piece_at : Reader (List ℕ)
piece_at [] = None
piece_at (b ∷ bs) = cond (b == 92) (escape_at bs) (cond (nat_lt b 32) None (Some (b ∷ [], bs)))

abbrev pub meaning_step : Reader (List ℕ) → Reader (List ℕ)
meaning_step more [] = None
meaning_step more (b ∷ bs) = cond (b == 34) (Some ([], bs)) (option_and_then (λ p. with_front p.0 (more p.1)) (piece_at (b ∷ bs)))

-- the bytes that the pieces up to the quote stand for, in at most so many turns
unfoldable pub meaning_at : ℕ → Reader (List ℕ)
meaning_at zero bs = None
meaning_at (suc turns) bs = meaning_step (meaning_at turns) bs

abbrev pub if_utf8 : List ℕ × List ℕ → Option (List ℕ × List ℕ)
if_utf8 p = cond (is_utf8 p.0) (Some p) None

-- a text, behind its quote
unfoldable pub text_at : Reader (List ℕ)
text_at bs = option_and_then if_utf8 (meaning_at (length bs) bs)

unfoldable pub quoted_at : Reader (List ℕ)
quoted_at bs = option_and_then text_at (after (34 ∷ []) bs)

-- ---- arrays and objects. Of a value that is deeper than a body may be, any body of the next depth is kept

abbrev pub is_deep : Tree → Bool
is_deep t = nat_lt max_read_depth (tree_depth t)

abbrev pub first_deep : List Tree → Tree
first_deep [] = null
first_deep (t ∷ ts) = cond (is_deep t) t (first_deep ts)

unfoldable pub kept_array : List Tree → Tree
kept_array ts = cond (nat_le (deepest_element (elements ts)) max_read_depth) (array (elements ts)) (first_deep ts)

unfoldable pub kept_object : List (List ℕ × Tree) → Tree
kept_object ps = cond (nat_le (deepest_member (gathered ps)) max_read_depth) (object (gathered ps)) (first_deep (map (λ p. p.1) ps))

-- Behind an item, and white space: a comma, and more is to come, or the closing bracket.
abbrev pub next_first : ℕ → Reader Bool
next_first closing [] = None
next_first closing (b ∷ bs) = cond (b == 44) (Some (true, bs)) (cond (b == closing) (Some (false, bs)) None)

unfoldable pub next_at : ℕ → Reader Bool
next_at closing bs = next_first closing (skip bs)

abbrev pub more_or_last : {A : Type 0} → A → Reader (List A) → Bool × List ℕ → Option (List A × List ℕ)
more_or_last item more next = cond next.0 (with_front (item ∷ []) (more next.1)) (Some (item ∷ [], next.1))

-- items up to the closing bracket, in at most so many turns
unfoldable pub items_at : {A : Type 0} → ℕ → Reader A → ℕ → Reader (List A)
items_at closing item zero bs = None
items_at closing item (suc turns) bs = option_and_then (λ p. option_and_then (more_or_last p.0 (items_at closing item turns)) (next_at closing p.1)) (item bs)

-- no items, or some
abbrev pub list_begun : {A : Type 0} → ℕ → Reader A → Reader (List A)
list_begun closing item [] = None
list_begun closing item (b ∷ bs) = cond (b == closing) (Some ([], bs)) (items_at closing item (length (b ∷ bs)) (b ∷ bs))

unfoldable pub list_at : {A : Type 0} → ℕ → Reader A → Reader (List A)
list_at closing item bs = list_begun closing item (skip bs)

-- a value, with white space before it
unfoldable pub element_at : Reader Tree → Reader Tree
element_at value bs = value (skip bs)

-- a key, a colon and a value, with white space before each
unfoldable pub pair_at : Reader Tree → Reader (List ℕ × Tree)
pair_at value bs = option_and_then (λ k. option_and_then (λ rest. option_map (λ v. ((k.0, v.0), v.1)) (value (skip rest))) (after (58 ∷ []) (skip k.1))) (quoted_at (skip bs))

abbrev pub word_at : List ℕ → Tree → Reader Tree
word_at word t bs = option_map (λ rest. (t, rest)) (after word bs)

-- a value that is no array and no object
unfoldable pub scalar_at : Reader Tree
scalar_at [] = None
scalar_at (b ∷ bs) =
    cond (b == 34) (seen_as text (text_at bs))
    (cond (b == 110) (word_at (codes "ull") null bs)
    (cond (b == 116) (word_at (codes "rue") (boolean true) bs)
    (cond (b == 102) (word_at (codes "alse") (boolean false) bs)
    (seen_as int (number_at (b ∷ bs))))))

-- an array behind its bracket, an object behind its brace
abbrev pub array_at : Reader Tree → Reader Tree
array_at value bs = seen_as kept_array (list_at 93 (element_at value) bs)

abbrev pub object_at : Reader Tree → Reader Tree
object_at value bs = seen_as kept_object (list_at 125 (pair_at value) bs)

abbrev pub value_with : Reader Tree → Reader Tree → Reader Tree
value_with arrays objects [] = None
value_with arrays objects (b ∷ bs) = cond (b == 91) (arrays bs) (cond (b == 123) (objects bs) (scalar_at (b ∷ bs)))

-- a value that nests arrays and objects no deeper than the number
unfoldable pub value_at : ℕ → Reader Tree
value_at zero = value_with (λ bs. None) (λ bs. None)
value_at (suc depth) = value_with (array_at (value_at depth)) (object_at (value_at depth))

abbrev pub if_last : Tree → List ℕ → Option Tree
if_last t [] = Some t
if_last t (b ∷ bs) = None

unfoldable pub json_of : List ℕ → Option Tree
json_of bs = option_and_then (λ p. if_last p.0 (skip p.1)) (value_at max_nesting (skip bs))
