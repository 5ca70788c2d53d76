mod Growing
mod Walking
