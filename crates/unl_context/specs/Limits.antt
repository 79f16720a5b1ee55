-- The limits of a context: values of at most 4,096 bytes, and at most 256 properties, whose names have 1 to 255 bytes.
use Rattle.std.specs.Prelude.{ℕ, List, length, Bool, true, ◌&&◌, not, Option, Some, None, Ok, Err, nat_lt, nat_le, if◌then◌else◌}
use Rattle.std.specs.List.{list_all}
use Rattle.unl_context.specs.declared.properties.Property.{Property}
use Rattle.unl_context.specs.declared.fault.BadContext.TheVariants.{TooLarge}
use Rattle.unl_context.specs.Context.{Fields}
use Rattle.unl_context.specs.Reading.{Reading}

-- The string has 1 to 255 bytes, as the name of a property must.
abbrev pub is_name : List ℕ → Bool
is_name text = nat_lt 0 (length text) && nat_le (length text) 255

-- The string as the name of a property, or `TooLarge` if it is empty or has more than 255 bytes.
abbrev pub name_of : List ℕ → Reading (List ℕ)
name_of key = if is_name key then Ok key else Err TooLarge

-- The string as the value of a field or property, or `TooLarge` if it has more than 4,096 bytes.
abbrev pub short_text : List ℕ → Reading (List ℕ)
short_text text = if nat_lt 4096 (length text) then Err TooLarge else Ok text

-- The properties, or `TooLarge` if there are more than 256.
abbrev pub up_to_256 : List Property → Reading (List Property)
up_to_256 properties = if nat_lt 256 (length properties) then Err TooLarge else Ok properties

-- A field is absent or has at most 4,096 bytes.
abbrev pub text_fits : Option (List ℕ) → Bool
text_fits None = true
text_fits (Some text) = not (nat_lt 4096 (length text))

-- A property's name and value are within their limits.
abbrev pub property_fits : Property → Bool
property_fits p = is_name p.name && not (nat_lt 4096 (length p.value))

-- Each field, each property and the number of properties are within their limits.
unfoldable pub is_within_limits : Fields → Bool
is_within_limits c =
    text_fits c.user_id && text_fits c.session_id && text_fits c.remote_address
    && text_fits c.environment && text_fits c.app_name && text_fits c.current_time
    && list_all property_fits c.properties && not (nat_lt 256 (length c.properties))
