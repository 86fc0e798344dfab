pub mod NumberSets
