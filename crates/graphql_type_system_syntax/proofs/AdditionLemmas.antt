-- What is added to a type: directives, with fields or members.
use Rattle.std.proofs.Common.{◌≡◌, ℕ, Bool, true, false, ◌||◌, List, [], ◌∷◌, refl}
use Rattle.graphql_nodes.specs.Names.{NameText}
use Rattle.graphql_tokens.specs.declared.token.TokenKind.TheVariants.{Ampersand, LeftBrace, VerticalBar}
use Rattle.graphql_trees.specs.declared.directives.Directive.{Directive}
use Rattle.graphql_trees.specs.declared.type_system.FieldDefinition.{FieldDefinition}
use Rattle.graphql_syntax.specs.Directives.{IsDirective, AreDirectives}
use Rattle.graphql_syntax.specs.Inputs.{Input, IsName, sees}
use Rattle.graphql_syntax.specs.Many.{nothing, more, some, PerhapsList}
use Rattle.graphql_type_system_syntax.specs.Bodies.{PerhapsInBraces}
use Rattle.graphql_type_system_syntax.specs.BodyReaders.{is_filled}
use Rattle.graphql_type_system_syntax.specs.Fields.{IsFieldDefinition, AreInterfaces}
use Rattle.graphql_type_system_syntax.specs.TypeDefinitions.{AreMembers}
use Rattle.graphql_type_system_syntax.specs.TypeExtensions.{IsFieldsAddition, IsMembersAddition}
use Rattle.graphql_type_system_syntax.specs.TypeExtensions as grammar
use Rattle.graphql_type_system_syntax.proofs.BraceLemmas.{many_some, some_many, some_filled, in_braces_filled, filled_or, or_filled}
use Rattle.graphql_type_system_syntax.proofs.SeparatorLemmas.{separated_filled}

left_filled : (a : Bool) → (a || false) ≡ true → a ≡ true
left_filled true e = refl
left_filled false e = absurd (let b : ⊥ = cc in b)

-- what is added to an object or an interface
pub record FieldsParts (depth : ℕ) (i : Input) (interfaces : List NameText) (directives : List Directive) (fields : List FieldDefinition) (j : Input) : Type 0 where
  pub behind_interfaces : Input
  pub behind_directives : Input
  pub implemented : PerhapsList AreInterfaces i interfaces behind_interfaces
  pub applied : AreDirectives true depth behind_interfaces directives behind_directives
  pub body : PerhapsInBraces IsFieldDefinition depth behind_directives fields j
  pub filled : (is_filled interfaces || is_filled directives || is_filled fields) ≡ true

-- directives and no fields, or interfaces alone
no_fields : (depth : ℕ) (i m : Input) (interfaces : List NameText) (directives : List Directive) (j : Input) → PerhapsList AreInterfaces i interfaces m →
    AreDirectives true depth m directives j → sees LeftBrace j ≡ false → (is_filled interfaces || is_filled directives || false) ≡ true →
    IsFieldsAddition depth i interfaces directives [] j
no_fields depth i _ interfaces _ _ implemented (more m n j x xs is are) unseen e =
    grammar.with_directives i m j interfaces (x ∷ xs) implemented (some m n j x xs is are) unseen
no_fields depth _ _ _ _ _ (PerhapsList.absent i) (nothing m) unseen e = absurd (let b : ⊥ = cc in b)
no_fields depth _ _ _ _ _ (PerhapsList.present i j interfaces are) (nothing m) unseen e = grammar.with_interfaces i j interfaces are unseen

pub fields_addition_of : (depth : ℕ) (i m n : Input) (interfaces : List NameText) (directives : List Directive) (fields : List FieldDefinition) (j : Input) →
    PerhapsList AreInterfaces i interfaces m → AreDirectives true depth m directives n → PerhapsInBraces IsFieldDefinition depth n fields j →
    (is_filled interfaces || is_filled directives || is_filled fields) ≡ true → IsFieldsAddition depth i interfaces directives fields j
fields_addition_of depth i m _ interfaces directives _ _ implemented applied (PerhapsInBraces.present n j fields is) e =
    grammar.with_fields i m n j interfaces directives fields implemented applied is
fields_addition_of depth i m _ interfaces directives _ _ implemented applied (PerhapsInBraces.absent n unseen) e =
    no_fields depth i m interfaces directives n implemented applied unseen e

interfaces_filled : (i : Input) (xs : List NameText) (j : Input) → AreInterfaces i xs j → is_filled xs ≡ true
interfaces_filled i xs j are = separated_filled Ampersand IsName are.behind_implements xs j are.names

pub fields_parts : (depth : ℕ) (i : Input) (interfaces : List NameText) (directives : List Directive) (fields : List FieldDefinition) (j : Input) →
    IsFieldsAddition depth i interfaces directives fields j → FieldsParts depth i interfaces directives fields j
fields_parts depth _ _ _ _ _ (grammar.with_fields i m n j interfaces directives fields implemented applied is) =
    record {
      behind_interfaces = m;
      behind_directives = n;
      implemented = implemented;
      applied = applied;
      body = PerhapsInBraces.present n j fields is;
      filled = filled_or (is_filled interfaces || is_filled directives) (is_filled fields) (in_braces_filled IsFieldDefinition depth n fields j is);
    }
fields_parts depth _ _ _ _ _ (grammar.with_directives i m j interfaces directives implemented applied unseen) =
    record {
      behind_interfaces = m;
      behind_directives = j;
      implemented = implemented;
      applied = some_many (IsDirective true depth) m directives j applied;
      body = PerhapsInBraces.absent j unseen;
      filled =
          or_filled (is_filled interfaces || is_filled directives) false
          (filled_or (is_filled interfaces) (is_filled directives) (some_filled (IsDirective true depth) m directives j applied));
    }
fields_parts depth _ _ _ _ _ (grammar.with_interfaces i j interfaces are unseen) =
    record {
      behind_interfaces = j;
      behind_directives = j;
      implemented = PerhapsList.present i j interfaces are;
      applied = nothing j;
      body = PerhapsInBraces.absent j unseen;
      filled = or_filled (is_filled interfaces || false) false (or_filled (is_filled interfaces) false (interfaces_filled i interfaces j are));
    }

-- what is added to a union
pub record MembersParts (depth : ℕ) (i : Input) (directives : List Directive) (members : List NameText) (j : Input) : Type 0 where
  pub behind_directives : Input
  pub applied : AreDirectives true depth i directives behind_directives
  pub body : PerhapsList AreMembers behind_directives members j
  pub filled : (is_filled directives || is_filled members) ≡ true

pub members_addition_of : (depth : ℕ) (i m : Input) (directives : List Directive) (members : List NameText) (j : Input) → AreDirectives true depth i directives m →
    PerhapsList AreMembers m members j → (is_filled directives || is_filled members) ≡ true → IsMembersAddition depth i directives members j
members_addition_of depth i _ directives _ _ applied (PerhapsList.present m j members are) e = grammar.with_members i m j directives members applied are
members_addition_of depth i _ directives _ _ applied (PerhapsList.absent m) e =
    grammar.with_directives i m directives (many_some (IsDirective true depth) i directives m applied (left_filled (is_filled directives) e))

pub members_parts : (depth : ℕ) (i : Input) (directives : List Directive) (members : List NameText) (j : Input) →
    IsMembersAddition depth i directives members j → MembersParts depth i directives members j
members_parts depth _ _ _ _ (grammar.with_members i m j directives members applied are) =
    record {
      behind_directives = m;
      applied = applied;
      body = PerhapsList.present m j members are;
      filled = filled_or (is_filled directives) (is_filled members) (separated_filled VerticalBar IsName are.behind_equals members j are.names);
    }
members_parts depth _ _ _ _ (grammar.with_directives i j directives applied) =
    record {
      behind_directives = j;
      applied = some_many (IsDirective true depth) i directives j applied;
      body = PerhapsList.absent j;
      filled = or_filled (is_filled directives) false (some_filled (IsDirective true depth) i directives j applied);
    }
