-- The bytes of a Go text that the definitions name, and the byte order mark, which is U+FEFF in UTF-8.
-- (The Go specification, "Source code representation"; the names are those of its text, or of ASCII.)
use Rattle.std.specs.Prelude.{ℕ}

abbrev pub nul : ℕ
nul = 0

abbrev pub tab : ℕ
tab = 9

abbrev pub line_feed : ℕ
line_feed = 10

abbrev pub carriage_return : ℕ
carriage_return = 13

abbrev pub space : ℕ
space = 32

abbrev pub exclamation_mark : ℕ
exclamation_mark = 33

abbrev pub double_quote : ℕ
double_quote = 34

abbrev pub percent : ℕ
percent = 37

abbrev pub ampersand : ℕ
ampersand = 38

abbrev pub single_quote : ℕ
single_quote = 39

abbrev pub left_parenthesis : ℕ
left_parenthesis = 40

abbrev pub right_parenthesis : ℕ
right_parenthesis = 41

abbrev pub asterisk : ℕ
asterisk = 42

abbrev pub plus : ℕ
plus = 43

abbrev pub comma : ℕ
comma = 44

abbrev pub minus : ℕ
minus = 45

abbrev pub period : ℕ
period = 46

abbrev pub slash : ℕ
slash = 47

abbrev pub digit_zero : ℕ
digit_zero = 48

abbrev pub colon : ℕ
colon = 58

abbrev pub semicolon : ℕ
semicolon = 59

abbrev pub less_than : ℕ
less_than = 60

abbrev pub equals : ℕ
equals = 61

abbrev pub greater_than : ℕ
greater_than = 62

abbrev pub upper_e : ℕ
upper_e = 69

abbrev pub upper_p : ℕ
upper_p = 80

abbrev pub upper_x : ℕ
upper_x = 88

abbrev pub left_bracket : ℕ
left_bracket = 91

abbrev pub backslash : ℕ
backslash = 92

abbrev pub right_bracket : ℕ
right_bracket = 93

abbrev pub caret : ℕ
caret = 94

abbrev pub underscore : ℕ
underscore = 95

abbrev pub back_quote : ℕ
back_quote = 96

abbrev pub lower_e : ℕ
lower_e = 101

abbrev pub lower_p : ℕ
lower_p = 112

abbrev pub lower_x : ℕ
lower_x = 120

abbrev pub left_brace : ℕ
left_brace = 123

abbrev pub pipe : ℕ
pipe = 124

abbrev pub right_brace : ℕ
right_brace = 125

abbrev pub tilde : ℕ
tilde = 126

-- the three bytes of the byte order mark
abbrev pub mark_first : ℕ
mark_first = 239

abbrev pub mark_second : ℕ
mark_second = 187

abbrev pub mark_third : ℕ
mark_third = 191
