-- Help with texts that are no documents, in words. Specification: 2 Language.
use Rattle.std.specs.Prelude.{ℕ, List, codes}
use Rattle.graphql_syntax_helps.specs.declared.helps.SyntaxHelp.{SyntaxHelp}
use Rattle.graphql_syntax_helps.specs.declared.helps.SyntaxHelp.TheVariants as help

abbrev pub syntax_help_words : SyntaxHelp → List ℕ
syntax_help_words help.UnclosedString = codes "the string has no closing quote on this line"
syntax_help_words help.BlockString = codes "the block string has no closing `\"\"\"`, or it has a control character"
syntax_help_words help.UnknownEscape = codes "after a backslash comes one of `\"`, `\\`, `/`, `b`, `f`, `n`, `r`, `t` and `u`"
syntax_help_words help.UnicodeEscape = codes "`\\u` takes four hexadecimal digits, or a code in braces; half of a surrogate pair needs the other half"
syntax_help_words help.LeadingZero = codes "a number has no zeros before its first digit"
syntax_help_words help.UnfinishedNumber = codes "a number ends before a letter, `_` or `.`; digits follow `.`, `e` and `E`"
syntax_help_words help.DoubleQuotes = codes "strings are written in double quotes"
syntax_help_words help.NoSemicolon = codes "leave out the semicolon"
syntax_help_words help.NumberSign = codes "comments begin with `#`"
syntax_help_words help.NoQuotes = codes "names are written without quotes"
syntax_help_words help.Colon = codes "write `:` in place of `=`"
syntax_help_words help.Ampersand = codes "write `&` between interfaces"
