-- The mode and the owner of what an action makes or copies.
use Rattle.std.specs.Prelude.{ℕ, ◌-◌, ◌%◌, ℤ, zero, suc, pos, negsuc, Option, Some, None, unwrap_or}
use Rattle.llb_ops.specs.declared.owners.ChownOpt.{ChownOpt}
use Rattle.llb_ops.specs.declared.owners.UserOpt.{UserOpt}
use Rattle.llb_ops.specs.declared.owners.User.{User}
use Rattle.llb_ops.specs.declared.owners.User.TheVariants.{ByName, ById}
use Rattle.llb_tree.specs.ModeAndOwner.{MetaValue}

-- the low 12 bits of a number in two's complement
abbrev pub mode_of : ℤ → ℕ
mode_of (pos n) = n % 4096
mode_of (negsuc n) = 4095 - n % 4096

-- the number of a user or a group; nothing if the user or group is given by name or not at all
abbrev pub number_in : Option User → Option ℕ
number_in (Some (ById n)) = Some n
number_in (Some (ByName name)) = None
number_in None = None

-- the number in the message of a user or a group; nothing if there is no message or no number in it
abbrev pub id_in : Option UserOpt → Option ℕ
id_in None = None
id_in (Some u) = number_in u.user

-- the number of an owner's user; nothing if the user is given by name or not at all
abbrev pub user_in : Option ChownOpt → Option ℕ
user_in None = None
user_in (Some o) = id_in o.user

-- the number of an owner's group; nothing if the group is given by name or not at all
abbrev pub group_in : Option ChownOpt → Option ℕ
group_in None = None
group_in (Some o) = id_in o.group

-- the mode and the owner of what an action makes; a user or group that is not given by number is 0
abbrev pub made : ℤ → Option ChownOpt → MetaValue
made mode owner = record { mode = mode_of mode; uid = unwrap_or (user_in owner) 0; gid = unwrap_or (group_in owner) 0 }

-- the mode of a copied entry by the mode of the action: -1 keeps `own`, the mode that the entry has
abbrev pub mode_from : ℤ → ℕ → ℕ
mode_from (negsuc zero) own = own
mode_from (negsuc (suc n)) own = mode_of (negsuc (suc n))
mode_from (pos n) own = mode_of (pos n)

-- the mode and the owner of a copied entry: the entry's mode stays if the action's mode is -1; a user or group that the action does not give by number stays
abbrev pub copied : ℤ → Option ChownOpt → MetaValue → MetaValue
copied mode owner own =
    record { mode = mode_from mode own.mode; uid = unwrap_or (user_in owner) own.uid; gid = unwrap_or (group_in owner) own.gid }
