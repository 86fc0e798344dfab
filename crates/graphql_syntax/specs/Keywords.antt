-- The texts of keywords. Specification: Appendix B.3 Document Syntax.
use Rattle.std.specs.Prelude.{ℕ, List, codes}
use Rattle.graphql_syntax.specs.declared.keywords.Keyword.{Keyword}
use Rattle.graphql_syntax.specs.declared.keywords.Keyword.TheVariants as keyword

abbrev pub keyword_text : Keyword → List ℕ
keyword_text keyword.True = codes "true"
keyword_text keyword.False = codes "false"
keyword_text keyword.Null = codes "null"
keyword_text keyword.Query = codes "query"
keyword_text keyword.Mutation = codes "mutation"
keyword_text keyword.Subscription = codes "subscription"
keyword_text keyword.Fragment = codes "fragment"
keyword_text keyword.On = codes "on"
keyword_text keyword.Extend = codes "extend"
keyword_text keyword.Schema = codes "schema"
keyword_text keyword.Scalar = codes "scalar"
keyword_text keyword.«Type» = codes "type"
keyword_text keyword.Implements = codes "implements"
keyword_text keyword.Interface = codes "interface"
keyword_text keyword.Union = codes "union"
keyword_text keyword.Enum = codes "enum"
keyword_text keyword.Input = codes "input"
keyword_text keyword.Directive = codes "directive"
keyword_text keyword.Repeatable = codes "repeatable"
