-- What a refusal of a list of types or of a directive prints.
use Rattle.std.specs.Prelude.{ℕ, List, ◌++◌, codes, string_bytes}
use Rattle.schema_validation.specs.declared.error.SchemaError.{SchemaError}
use Rattle.schema_validation.specs.declared.error.SchemaError.TheVariants as e

-- the bytes that it prints
abbrev pub error_text : SchemaError → List ℕ
error_text e.OutOfMemory = codes "out of memory"
error_text (e.MissingRoot name) = codes "the root type \"" ++ string_bytes name ++ codes "\" is not listed"
error_text e.QueryNotObject = codes "the query root is not an object"
error_text e.UnnamedType = codes "a listed type has no name"
error_text (e.RepeatedType name) = codes "two listed types are named \"" ++ string_bytes name ++ codes "\""
error_text (e.UnknownType name) = codes "the type \"" ++ string_bytes name ++ codes "\" is not listed"
error_text (e.UnionMemberNotObject name) = codes "the union member \"" ++ string_bytes name ++ codes "\" is not an object"
error_text (e.NotInputType name) = codes "the type \"" ++ string_bytes name ++ codes "\" is not an input type"
