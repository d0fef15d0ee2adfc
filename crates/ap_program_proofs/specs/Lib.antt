pub mod ProgramUses
